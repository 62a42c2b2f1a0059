-- What is printed is read by the calls that read captures.
use Rattle.std.proofs.Common.{◌≡◌, ℕ, ◌+◌, ◌/◌, ◌%◌, ◌^◌, ◌<◌, ◌≤◌, Bool, true, false, List, [], ◌∷◌, ◌++◌, length, take, drop, Some, Result, Ok, refl, subst, sym, ap, ◌∙◌, arith, append_assoc, nat_lt}
use Rattle.std.proofs.lemmas.Bool.{eq-eqb, le-ltb, lt-ltb}
use Rattle.std.proofs.lemmas.List.{append-nil, drop_at, length-append, length-replicate}
use Rattle.std.specs.Int.{w32}
use Rattle.std.specs.List.{list_any}
use Rattle.std.specs.Prelude.{slice_get}
use Rattle.at_base.proofs.Fields.{bytes_again}
use Rattle.at_base.specs.Reading.{◌>>=◌}
use Rattle.at_base.specs.Spelling.{bytes_of}
use Rattle.ethertalk.proofs.Values.{frame_length}
use Rattle.ethertalk.specs.Frames.{frame, max_bytes}
use Rattle.pcapng.proofs.Begun.{block_again, four_again, head_again, in_four, two_again}
use Rattle.pcapng.proofs.Laid.{interface_laid, packet_laid}
use Rattle.pcapng.specs.Blocks as blocks
use Rattle.pcapng.specs.Blocks.{interface_total, magic, packet_total, section, unknown}
use Rattle.pcapng.specs.Captures.{FitsPacket, frame_of, heartbeat_bytes, packet_bytes, section_bytes}
use Rattle.pcapng.specs.Fields.{filling, four, four_bytes, gap, two_bytes}
use Rattle.pcapng.specs.First.{IsFirst, first_block}
use Rattle.pcapng.specs.Heads.{head_by, head_of, is_section, is_short, max_block, section_kind}
use Rattle.pcapng.specs.Options.{Described, is_lost, option_at, options_of}
use Rattle.pcapng.specs.Orders.{number_of}
use Rattle.pcapng.specs.Packets.{Packed, interface_at, time_on}
use Rattle.pcapng.specs.Sections.{Section, Told, beats, begins, body_of, described_in, describes, ethernet, packet_in, packs, pcapng, statistics_in, two_words, unread}
use Rattle.pcapng.specs.declared.fault.Fault.{Fault}
use Rattle.pcapng.specs.declared.fault.Fault.TheVariants.{Cut}
use Rattle.pcapng.specs.declared.form.Began.TheVariants as began
use Rattle.pcapng.specs.declared.form.Forms.{Forms}
use Rattle.pcapng.specs.declared.head.Head.{Head}
use Rattle.pcapng.specs.declared.interface.Interface.{Interface}
use Rattle.pcapng.specs.declared.item.Item.TheVariants.{Block}
use Rattle.pcapng.specs.declared.order.Order.TheVariants.{Big}
use Rattle.pcapng.specs.declared.packet.Packet.{Packet}

regroup_block : (k t a b l rest : List ℕ) → (k ++ (t ++ ((a ++ b) ++ l))) ++ rest ≡ k ++ (t ++ (a ++ (b ++ (l ++ rest))))
regroup_block k t a b l rest = simp append_assoc

-- ---- the section header

abbrev section_head_is : Head
section_head_is = record { order = Big; item = Block section_kind; len = 28 }

abbrev after_magic : List ℕ
after_magic = two_bytes 1 ++ (two_bytes 0 ++ unknown)

section_laid : section_bytes ≡ four_bytes section_kind ++ (four_bytes 28 ++ ((four_bytes magic ++ after_magic) ++ four_bytes 28))
unfolding section four
section_laid = refl

section_by : (forms : Forms) → head_by (began.Nothing forms) (four_bytes section_kind) (four_bytes 28) (four_bytes magic) ≡ Ok section_head_is
section_by forms = refl

section_says : (forms : Forms) → body_of (unread forms) section_head_is section_kind (four_bytes magic ++ after_magic) ≡ Ok (begins, pcapng Big [])
section_says forms = refl

pub section_told : (forms : Forms) (rest : List ℕ) → IsFirst (unread forms) (section_bytes ++ rest) begins (pcapng Big []) rest
section_told forms rest =
    let head =
    ap (λ (l : List ℕ). head_of (began.Nothing forms) (take 12 l))
    (regroup_block (four_bytes section_kind) (four_bytes 28) (four_bytes magic) after_magic (four_bytes 28) rest)
    ∙ (head_again (began.Nothing forms) (four_bytes section_kind) (four_bytes 28) (four_bytes magic) (after_magic ++ (four_bytes 28 ++ rest)) refl refl refl ∙ section_by forms) in
    ap (λ (l : List ℕ). first_block (unread forms) (l ++ rest)) section_laid
    ∙ block_again (unread forms) section_head_is section_kind (four_bytes magic ++ after_magic) rest refl refl refl (omega arith) head _ _ (section_says forms)

-- ---- blocks of a section

-- the head of a block of this type with this length
abbrev head_at : ℕ → ℕ → Head
head_at kind total = record { order = Big; item = Block kind; len = total }

module _ (is : List Interface) (kind total : ℕ) (third more rest : List ℕ) (four : length third ≡ 4) (fits : kind < 2 ^ 32)
    (other : is_section (four_bytes kind) ≡ false) (len : length (third ++ more) + 12 ≡ total) (words : total % 4 ≡ 0) (short : total ≤ max_block) where
  in_section : (t : Told) (after : Section) → body_of (pcapng Big is) (head_at kind total) kind (third ++ more) ≡ Ok (t, after)
      → IsFirst (pcapng Big is) ((four_bytes kind ++ (four_bytes total ++ ((third ++ more) ++ four_bytes total))) ++ rest) t after rest
  in_section t after says =
      let least : nat_lt total 12 ≡ false = le-ltb _ _ (omega (arith, len)) in
      let by : head_by (began.Pcapng Big) (four_bytes kind) (four_bytes total) third ≡ Ok (head_at kind total) =
      rw (other, in_four Big kind fits, in_four Big total (omega (arith, short)), least, eq-eqb _ _ words) refl in
      let head =
      ap (λ (l : List ℕ). head_of (began.Pcapng Big) (take 12 l)) (regroup_block (four_bytes kind) (four_bytes total) third more (four_bytes total) rest)
      ∙ (head_again (began.Pcapng Big) (four_bytes kind) (four_bytes total) third (more ++ (four_bytes total ++ rest)) refl refl four ∙ by) in
      block_again (pcapng Big is) (head_at kind total) kind (third ++ more) rest refl refl len short head t after says

-- ---- interfaces

-- what follows an interface's link type and limit: the option of its name, and the end of the options
abbrev name_options : List ℕ → List ℕ
name_options name = two_bytes 2 ++ (two_bytes (length name) ++ (name ++ (filling (length name) ++ four_bytes 0)))

name_told : (name : List ℕ) → length name ≤ 22 → options_of Big (name_options name) ≡ (2, name) ∷ []
name_told name few =
    let n = length name in
    let code = two_again Big 2 (two_bytes n ++ (name ++ (filling n ++ four_bytes 0))) (omega arith) in
    let len = two_again Big n (name ++ (filling n ++ four_bytes 0)) (omega (arith, few)) in
    let value = bytes_again n Cut name (filling n ++ four_bytes 0) refl in
    let zeros : length (filling n) ≡ gap n = length-replicate (gap n) 0 in
    let past : drop (gap n) (filling n ++ four_bytes 0) ≡ four_bytes 0 = drop_at (filling n) (four_bytes 0) (gap n) zeros in
    let first : option_at Big (name_options name) ≡ Ok ((2, name), four_bytes 0) = rw (code, len, value, past) refl in
    rw first refl

regroup_front : (a b c d : List ℕ) → (a ++ b) ++ (c ++ d) ≡ a ++ ((b ++ c) ++ d)
regroup_front a b c d = simp append_assoc

regroup_interface : (k t a b c d e f g h : List ℕ)
    → (k ++ t ++ a ++ b ++ c) ++ (d ++ e ++ f ++ g) ++ h ++ t ≡ k ++ (t ++ (((a ++ b) ++ (c ++ (d ++ (e ++ (f ++ (g ++ h)))))) ++ t))
regroup_interface k t a b c d e f g h = simp append_assoc

module _ (is : List Interface) (name rest : List ℕ) (few : length name ≤ 22) (room : length is < 256) where
  abbrev link : List ℕ
  link = two_bytes 1 ++ two_bytes 0

  abbrev after_link : List ℕ
  after_link = four_bytes 0 ++ name_options name

  described : described_in Big (link ++ after_link) ≡ Ok (record { interface = ethernet; name = Some name })
  described =
      let options = name_options name in
      let parts = regroup_front (two_bytes 1) (two_bytes 0) (four_bytes 0) options in
      let one = two_again Big 1 ((two_bytes 0 ++ four_bytes 0) ++ options) (omega arith) in
      let six = bytes_again 6 Cut (two_bytes 0 ++ four_bytes 0) options refl in
      ap (described_in Big) parts ∙ rw (one, six, name_told name few) refl

  link_len : length (link ++ after_link) + 12 ≡ interface_total name
  link_len =
      let n = length name in
      let zeros : length (filling n) ≡ gap n = length-replicate (gap n) 0 in
      omega (
        arith,
        length-append (four_bytes 0) (name_options name),
        length-append link after_link,
        length-append (two_bytes 2) (two_bytes n ++ (name ++ (filling n ++ four_bytes 0))),
        length-append (two_bytes n) (name ++ (filling n ++ four_bytes 0)),
        length-append name (filling n ++ four_bytes 0),
        length-append (filling n) (four_bytes 0),
        zeros,
      )

  pub interface_told : IsFirst (pcapng Big is) (bytes_of blocks.interface name ++ rest)
      (describes (record { interface = ethernet; name = Some name })) (pcapng Big (is ++ ethernet ∷ [])) rest
  interface_told =
      let total = interface_total name in
      let n = length name in
      let laid : bytes_of blocks.interface name ≡ four_bytes 1 ++ (four_bytes total ++ ((link ++ after_link) ++ four_bytes total)) =
      sym (interface_laid name total (omega (arith, few)) refl)
      ∙ regroup_interface (four_bytes 1) (four_bytes total) (two_bytes 1) (two_bytes 0) (four_bytes 0) (two_bytes 2) (two_bytes n) name (filling n) (four_bytes 0) in
      let d : Described = record { interface = ethernet; name = Some name } in
      let fits : nat_lt (length is) 256 ≡ true = lt-ltb _ _ room in
      let says : body_of (pcapng Big is) (head_at 1 total) 1 (link ++ after_link)
      ≡ Ok (describes d, pcapng Big (is ++ ethernet ∷ [])) = rw (described, fits) refl in
      ap (λ (l : List ℕ). first_block (pcapng Big is) (l ++ rest)) laid
      ∙ in_section is 1 total link after_link rest refl (omega arith) refl link_len (omega arith) (omega (arith, few)) _ _ says

-- ---- packets

lost_told : (lost : Bool) → list_any is_lost (options_of Big (bytes_of (blocks.options lost) lost)) ≡ lost
unfolding blocks.options four
lost_told true = refl
lost_told false = refl

options_length : (lost : Bool) → length (bytes_of (blocks.options lost) lost) ≡ blocks.options_len lost
unfolding blocks.options four
options_length true = refl
options_length false = refl

time_told : (time : ℕ) → time < 2 ^ 64 → time_on ethernet (two_words (time / 2 ^ 32) (time % 2 ^ 32)) ≡ time
time_told time fits = omega (arith, fits)

regroup_packet : (k t a b c d e p z o : List ℕ)
    → (k ++ t ++ a ++ (b ++ c) ++ d ++ e) ++ p ++ z ++ o ++ t ≡ k ++ (t ++ ((a ++ (b ++ (c ++ (d ++ (e ++ (p ++ (z ++ o))))))) ++ t))
regroup_packet k t a b c d e p z o = simp append_assoc

total_words : (n : ℕ) (lost : Bool) → packet_total n lost % 4 ≡ 0
total_words n true = omega arith
total_words n false = omega arith

total_few : (n : ℕ) (lost : Bool) → n ≤ 1514 → packet_total n lost ≤ max_block
total_few n true few = omega (arith, few)
total_few n false few = omega (arith, few)

-- a whole packet on an Ethernet
abbrev seen_at : ℕ → ℕ → Bool → List ℕ → Packed
seen_at seat time lost packet = record { interface = seat; time = time; ethernet = true; whole = true; lost = lost; bytes = packet }

module _ (is : List Interface) (seat time : ℕ) (lost : Bool) (packet rest : List ℕ) (s : seat < 256) (t : time < 2 ^ 64) (few : length packet ≤ 1514)
    (there : slice_get is seat ≡ Some ethernet) where
  abbrev n : ℕ
  n = length packet

  abbrev opts : List ℕ
  opts = bytes_of (blocks.options lost) lost

  abbrev after_seat : List ℕ
  after_seat =
      four_bytes (time / 2 ^ 32) ++ (four_bytes (time % 2 ^ 32) ++ (four_bytes n ++ (four_bytes n ++ (packet ++ (filling n ++ opts)))))

  abbrev made : blocks.PacketBlock
  made = record { interface = seat; time = time; packet = packet; lost = lost }

  zeros : length (filling n) ≡ gap n
  zeros = length-replicate (gap n) 0

  packet_says : packet_in is Big (four_bytes seat ++ after_seat) ≡ Ok (seen_at seat time lost packet)
  packet_says =
      let end = packet ++ (filling n ++ opts) in
      let a = four_again Big seat after_seat (omega (arith, s)) in
      let b = four_again Big (time / 2 ^ 32) (four_bytes (time % 2 ^ 32) ++ (four_bytes n ++ (four_bytes n ++ end))) (omega (arith, t)) in
      let c = four_again Big (time % 2 ^ 32) (four_bytes n ++ (four_bytes n ++ end)) (omega arith) in
      let d = four_again Big n (four_bytes n ++ end) (omega (arith, few)) in
      let e = four_again Big n end (omega (arith, few)) in
      let f = bytes_again n Cut packet (filling n ++ opts) refl in
      let g : drop (gap n) (filling n ++ opts) ≡ opts = drop_at (filling n) opts (gap n) zeros in
      let all : nat_lt n n ≡ false = le-ltb _ _ (omega arith) in
      rw (a, b, c, d, e, there, f, g, lost_told lost, time_told time t, all) refl

  body_len : length (four_bytes seat ++ after_seat) + 12 ≡ packet_total n lost
  body_len =
      let end = packet ++ (filling n ++ opts) in
      omega (
        arith,
        length-append (four_bytes seat) after_seat,
        length-append (four_bytes (time / 2 ^ 32)) (four_bytes (time % 2 ^ 32) ++ (four_bytes n ++ (four_bytes n ++ end))),
        length-append (four_bytes (time % 2 ^ 32)) (four_bytes n ++ (four_bytes n ++ end)),
        length-append (four_bytes n) (four_bytes n ++ end),
        length-append (four_bytes n) end,
        length-append packet (filling n ++ opts),
        length-append (filling n) opts,
        zeros,
        options_length lost,
      )

  pub packet_told : IsFirst (pcapng Big is) (bytes_of blocks.packet_block made ++ rest) (packs (seen_at seat time lost packet)) (pcapng Big is) rest
  packet_told =
      let total = packet_total n lost in
      let laid : bytes_of blocks.packet_block made ≡ four_bytes 6 ++ (four_bytes total ++ ((four_bytes seat ++ after_seat) ++ four_bytes total)) =
      sym (packet_laid made n total s t (omega (arith, few)) refl refl)
      ∙ regroup_packet (four_bytes 6) (four_bytes total) (four_bytes seat) (four_bytes (time / 2 ^ 32)) (four_bytes (time % 2 ^ 32)) (four_bytes n) (four_bytes n) packet
      (filling n) opts in
      let short = total_few n lost few in
      let h = head_at 6 total in
      let whole : is_short h ≡ true = let no : nat_lt max_block total ≡ false = le-ltb _ _ short in rw no refl in
      let says : body_of (pcapng Big is) h 6 (four_bytes seat ++ after_seat) ≡ Ok (packs (seen_at seat time lost packet), pcapng Big is) = rw (whole, packet_says) refl in
      ap (λ (l : List ℕ). first_block (pcapng Big is) (l ++ rest)) laid
      ∙ in_section is 6 total (four_bytes seat) after_seat rest refl (omega arith) refl body_len (total_words n lost) short _ _ says

-- the packet of a frame
pub frame_told : (is : List Interface) (p : Packet) (bytes rest : List ℕ) → FitsPacket p → length bytes ≤ max_bytes
    → slice_get is p.interface ≡ Some ethernet
    → IsFirst (pcapng Big is) (packet_bytes p bytes ++ rest) (packs (seen_at p.interface p.time p.lost (bytes_of frame (frame_of p bytes)))) (pcapng Big is) rest
frame_told is p bytes rest fits few there =
    let len = frame_length (frame_of p bytes) fits.to fits.from in
    packet_told is p.interface p.time p.lost (bytes_of frame (frame_of p bytes)) rest fits.interface fits.time (omega (arith, len, few)) there

-- ---- heartbeats

module _ (is : List Interface) (index time : ℕ) (i : index < 2 ^ 32) (t : time < 2 ^ 64) (there : slice_get is index ≡ Some ethernet) where
  abbrev after_index : List ℕ
  after_index = four_bytes (time / 2 ^ 32) ++ four_bytes (time % 2 ^ 32)

  abbrev said : ℕ → ℕ → ℕ → Result (ℕ × ℕ) Fault
  said k high low = interface_at is k >>= λ x. Ok (k, time_on x (two_words high low))

  statistics_say : statistics_in is Big (four_bytes index ++ after_index) ≡ Ok (index, time)
  statistics_say =
      let a = four_again Big index after_index i in
      let b = four_again Big (time / 2 ^ 32) (four_bytes (time % 2 ^ 32)) (omega (arith, t)) in
      let whole : four_bytes (time % 2 ^ 32) ++ [] ≡ four_bytes (time % 2 ^ 32) = append-nil (four_bytes (time % 2 ^ 32)) in
      let c : number_of Big w32 (four_bytes (time % 2 ^ 32)) ≡ Ok (time % 2 ^ 32, []) =
      subst (λ l. number_of Big w32 l ≡ Ok (time % 2 ^ 32, [])) whole (four_again Big (time % 2 ^ 32) [] (omega arith)) in
      ap (λ (r : Result (ℕ × List ℕ) Fault). r >>= λ x. number_of Big w32 x.1 >>= λ high. number_of Big w32 high.1 >>= λ low. said x.0 high.0 low.0) a
      ∙ ap (λ (r : Result (ℕ × List ℕ) Fault). r >>= λ high. number_of Big w32 high.1 >>= λ low. said index high.0 low.0) b
      ∙ ap (λ (r : Result (ℕ × List ℕ) Fault). r >>= λ low. said index (time / 2 ^ 32) low.0) c
      ∙ rw (there, time_told time t) refl

-- a heartbeat says when
pub heartbeat_told : (is : List Interface) (time : ℕ) (rest : List ℕ) → time < 2 ^ 64 → slice_get is 0 ≡ Some ethernet
    → IsFirst (pcapng Big is) (heartbeat_bytes time ++ rest) (beats 0 time) (pcapng Big is) rest
heartbeat_told is time rest t there =
    let after = four_bytes (time / 2 ^ 32) ++ four_bytes (time % 2 ^ 32) in
    let said = statistics_say is 0 time (omega arith) t there in
    let says : body_of (pcapng Big is) (head_at 5 24) 5 (four_bytes 0 ++ after) ≡ Ok (beats 0 time, pcapng Big is) = rw said refl in
    in_section is 5 24 (four_bytes 0) after rest refl (omega arith) refl refl refl (omega arith) _ _ says
