-- What a place shows to a look at it.
use Rattle.std.specs.Prelude.{cond, Option, option_map}
use Rattle.lazy_rec.specs.declared.places.Ref.{Ref}
use Rattle.lazy_rec.specs.declared.states.SuspState.{SuspState}
use Rattle.lazy_rec.specs.declared.states.SuspState.TheVariants as states
use Rattle.lazy_rec.specs.Named.{is_pending}
use Rattle.heap_store.specs.declared.nodes.Node.{Node}
use Rattle.heap_store.specs.World.{World, node_at}
use Rattle.force_engine.specs.declared.shown.Peek.{Peek}
use Rattle.force_engine.specs.declared.shown.Peek.TheVariants as peeks

-- of a suspension in a state
abbrev pub shown_of : SuspState → Peek
shown_of (states.Unforced _) = peeks.Unforced
shown_of (states.Claimed _) = peeks.Claimed
shown_of (states.Done place _ _) = peeks.Value place

-- a value shows itself
abbrev pub shown_at : World → Ref → Option Peek
shown_at w s = option_map (λ (n : Node). cond (is_pending n.rec) (shown_of n.state) (peeks.Value s)) (node_at w s.0)
