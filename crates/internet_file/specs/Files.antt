-- Internet files: a network, and what happens in it in each tick.
use Rattle.std.specs.Prelude.{ℕ, Bool, ◌&&◌, cond, List, [], ◌∷◌, Option, Some, None, Result, Ok, Err}
use Rattle.std.specs.Prelude.{codes}
use Rattle.toml.specs.Data.{Members}
use Rattle.at_base.specs.declared.error.Error.{Error}
use Rattle.at_base.specs.declared.error.Error.TheVariants.{BadFile}
use Rattle.at_base.specs.declared.error.Part.TheVariants.{Top, Cable as CablePart, Router as RouterPart, Node as NodePart}
use Rattle.at_base.specs.declared.error.Part.TheVariants.{Lose, Action as ActionPart}
use Rattle.internet_file.specs.Actions.{action_of, loss_of}
use Rattle.internet_file.specs.Cables.{cable_of}
use Rattle.file_entries.specs.Documents.{IsRead, IsRefused}
use Rattle.file_entries.specs.Entries.{after, at, entries_at, has_only, is_listed, part, part_up_to}
use Rattle.internet_file.specs.Stations.{node_of, router_of}
use Rattle.file_entries.specs.Values.{number}
use Rattle.internet_file.specs.declared.action.Action.{Action}
use Rattle.internet_file.specs.declared.cable.Cable.{Cable}
use Rattle.internet_file.specs.declared.loss.Loss.{Loss}
use Rattle.internet_file.specs.declared.node.Node.{Node}
use Rattle.internet_file.specs.declared.router.Router.{Router}
use Rattle.at_base.specs.Limits.{max_cables, max_nodes, max_routers}

-- The plan in an internet file.
pub record Planned : Type 0 where
  pub ticks : ℕ
  pub cables : List Cable
  pub routers : List Router
  pub nodes : List Node
  pub losses : List Loss
  pub actions : List Action

-- The keys at the top level of a file.
abbrev pub top_keys : List (List ℕ)
top_keys =
    codes "ticks" ∷ codes "cable" ∷ codes "router" ∷ codes "node" ∷ codes "lose" ∷ codes "action" ∷ []

-- The tables of a file are lists.
abbrev pub are_listed : Members → Bool
are_listed ms =
    is_listed (codes "cable") ms && is_listed (codes "router") ms && is_listed (codes "node") ms
    && is_listed (codes "lose") ms && is_listed (codes "action") ms

-- The top level has only the keys of a file, and its tables are lists.
abbrev pub is_top : Members → Bool
is_top ms = has_only top_keys ms && are_listed ms

-- The number of ticks, or the error of an invalid top level where there is no number.
abbrev pub ticks_by : Option ℕ → Result ℕ Error
ticks_by (Some ticks) = Ok ticks
ticks_by None = Err (BadFile Top 0)

-- The number of ticks in the file, if the top level is valid.
unfoldable pub ticks_of : Members → Result ℕ Error
ticks_of ms = ticks_by (cond (is_top ms) (at (codes "ticks") (number 1 100000) ms) None)

-- The cables of a file, or the error of the first invalid one.
unfoldable pub cables_in : Members → Result (List Cable) Error
cables_in ms = part_up_to max_cables CablePart (λ k. cable_of) (entries_at (codes "cable") ms)

-- The routers of a file with these cables, or the error of the first invalid one.
unfoldable pub routers_in : List Cable → Members → Result (List Router) Error
routers_in cables ms = part_up_to max_routers RouterPart (λ k. router_of cables) (entries_at (codes "router") ms)

-- The nodes of a file with these cables, or the error of the first invalid one.
unfoldable pub nodes_in : List Cable → Members → Result (List Node) Error
nodes_in cables ms = part_up_to max_nodes NodePart (λ k. node_of cables) (entries_at (codes "node") ms)

-- The losses of a file with this many ticks and these cables, or the error of the first invalid one.
unfoldable pub losses_in : ℕ → List Cable → Members → Result (List Loss) Error
losses_in ticks cables ms = part Lose (λ k. loss_of ticks cables) (entries_at (codes "lose") ms)

-- The actions of a file with this many ticks and these nodes, or the error of the first invalid one.
unfoldable pub actions_in : ℕ → List Node → Members → Result (List Action) Error
actions_in ticks nodes ms = part ActionPart (λ k. action_of ticks nodes) (entries_at (codes "action") ms)

-- The plan in a document, or the error of its first fault.
abbrev pub file : Members → Result Planned Error
file ms =
    after (ticks_of ms) (λ ticks. after (cables_in ms) (λ cables. after (routers_in cables ms) (λ routers.
    after (nodes_in cables ms) (λ nodes. after (losses_in ticks cables ms) (λ losses.
    after (actions_in ticks nodes ms) (λ actions.
    Ok (record {
      ticks = ticks;
      cables = cables;
      routers = routers;
      nodes = nodes;
      losses = losses;
      actions = actions;
    })))))))

-- The text is a file with this plan.
abbrev pub IsFile : List ℕ → Planned → Type 0
IsFile text plan = IsRead file text plan

-- The error is that of a text that isn't TOML, or that of the document's first fault, or Memory.
abbrev pub IsFileRefused : List ℕ → Error → Type 0
IsFileRefused text e = IsRefused file text e
