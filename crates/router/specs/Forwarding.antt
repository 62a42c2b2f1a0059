-- The course of a datagram that a router receives. (Inside AppleTalk, the chapter on DDP; the order of the tests is
-- this project's own)
use Rattle.std.specs.Prelude.{ℕ, ◌+◌, ◌<◌, IfSome, Bool, true, false, not, ◌||◌, ◌==◌, cond, List, [], ◌∷◌, Option, Some, None}
use Rattle.aarp.specs.Choosing.{Choice}
use Rattle.at_base.specs.Spelling.{bytes_of}
use Rattle.at_base.specs.declared.address.Addr.{Addr}
use Rattle.ddp.specs.Bodies.{with_hops}
use Rattle.ddp.specs.Datagram.{Datagram, datagram}
use Rattle.rtmp.specs.declared.row.Row.{Row}
use Rattle.station.specs.Lawful.{IsNext}
use Rattle.station.specs.Ports.{has}
use Rattle.station.specs.declared.heard.Link.{Link}
use Rattle.station.specs.declared.heard.Link.TheVariants as link
use Rattle.station.specs.declared.output.DropCause.TheVariants.{NoRoute, HopLimit}
use Rattle.station.specs.declared.output.Next.TheVariants as next
use Rattle.station.specs.declared.output.Output.{Output}
use Rattle.station.specs.declared.output.Output.TheVariants.{Passed, Kept, Dropped}
use Rattle.router.specs.Holding.{hand, own_at}
use Rattle.router.specs.declared.course.Course.{Course}
use Rattle.router.specs.declared.course.Ending.{Ending}
use Rattle.router.specs.declared.course.Step.{Step}
use Rattle.router.specs.declared.course.Step.TheVariants as step
use Rattle.router.specs.declared.hand.Hand.{Hand}
use Rattle.router.specs.declared.hand.Hand.TheVariants.{Here, On, Nowhere}

-- the frame was sent to the router's own hardware address
abbrev pub is_own : Link → Bool
is_own link.Own = true
is_own link.All = false
is_own (link.Group g) = false

-- the datagram ended on a port, either as one for the router itself or as one for every node there
abbrev pub ended : ℕ → Bool → Option Ending
ended p is_own = Some (record { port = p; is_own = is_own })

-- The datagram ends at once and isn't forwarded: it was received in a frame to several stations, or its target's
-- network is 0, or its target is the address of the port on which it was received.
abbrev pub ends_at_once : List Choice → ℕ → Link → Addr → Bool
ends_at_once ports p l target = not (is_own l) || target.net == 0 || has target (own_at ports p)

-- The ending, if there is one, of a datagram that ends at once: in a frame to the router it is for the router itself,
-- in a frame to all stations it is for every node if its target is node 255, and in a frame to a group it has none.
abbrev pub heard_as : ℕ → Link → Addr → Option Ending
heard_as p link.Own target = ended p true
heard_as p link.All target = cond (target.node == 255) (ended p false) None
heard_as p (link.Group g) target = None

-- the course with this step, without an ending at the router
abbrev pub goes : Step → Course
goes s = record { step = Some s; ending = None }

-- The course of a datagram whose target's network is on the port's cable: it is for the router itself, for all nodes
-- there, or for one node.
abbrev pub arrived : List Choice → ℕ → ℕ → Addr → Course
arrived ports q hops target =
    cond (target.node == 0 || has target (own_at ports q)) (record { step = Some (step.Keep q); ending = ended q true })
    (cond (hops == 15) (goes (step.Drop HopLimit))
    (cond (target.node == 255) (record { step = Some (step.Pass q next.All); ending = ended q false })
    (goes (step.Pass q (next.Station target)))))

-- the course of a datagram for which the next router is known
abbrev pub handed_on : ℕ → Addr → ℕ → Course
handed_on q a hops = cond (hops == 15) (goes (step.Drop HopLimit)) (goes (step.Pass q (next.Station a)))

-- the course of a datagram that doesn't end at once, by the router's route to the target's network
abbrev pub course_by : List Choice → Hand → ℕ → Addr → Course
course_by ports Nowhere hops target = goes (step.Drop NoRoute)
course_by ports (Here q) hops target = arrived ports q hops target
course_by ports (On q a) hops target = handed_on q a hops

-- the course of a datagram with this hop count and target that was received on a port in a frame of this link
abbrev pub course : List Choice → List Row → ℕ → Link → ℕ → Addr → Course
course ports routes p l hops target =
    cond (ends_at_once ports p l target) (record { step = None; ending = heard_as p l target })
    (course_by ports (hand routes target.net) hops target)

-- the step forwards a datagram only if its hop count is below 15
abbrev pub IsNear : ℕ → Step → Type 0
IsNear hops (step.Pass q to) = hops < 15
IsNear hops (step.Keep q) = Unit {0}
IsNear hops (step.Drop cause) = Unit {0}

-- the step's port, if it has one, is among the first n, and its group, if it has one, exists
abbrev pub IsBy : ℕ → Step → Type 0
IsBy n (step.Pass q to) = (q < n) × IsNext to
IsBy n (step.Keep q) = q < n
IsBy n (step.Drop cause) = Unit {0}

-- The ports that a course names are among the first n, and it forwards only a datagram whose hop count is below 15.
pub record IsCourse (n hops : ℕ) (c : Course) : Type 0 where
  pub near : IfSome c.step (IsNear hops)
  pub by : IfSome c.step (IsBy n)
  pub ending : IfSome c.ending (λ e. e.port < n)

-- the bytes of a datagram, without padding
abbrev pub bytes_in : Datagram → List ℕ
bytes_in d = bytes_of datagram d

-- the bytes of a datagram after it is forwarded: one hop more, and nothing else is changed
abbrev pub onward : Datagram → List ℕ
onward d = with_hops (d.hops + 1) (bytes_in d)

-- the output for a datagram in a step
abbrev pub output_of : Step → Datagram → Output
output_of (step.Pass q to) d = Passed q to (onward d)
output_of (step.Keep q) d = Kept q (bytes_in d)
output_of (step.Drop cause) d = Dropped cause (bytes_in d)

-- the output for the datagram itself, if a step is taken
abbrev pub fate : Option Step → Datagram → List Output
fate None d = []
fate (Some s) d = output_of s d ∷ []
