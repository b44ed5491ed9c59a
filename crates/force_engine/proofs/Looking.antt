-- What a place shows.
use Rattle.std.proofs.Common.{◌≡◌, true, false, cond, Option, Some, None, refl}
use Rattle.std.specs.Prelude.{option_map}
use Rattle.lazy_rec.specs.declared.places.Ref.{Ref}
use Rattle.lazy_rec.specs.declared.records.Rec.{Rec}
use Rattle.lazy_rec.specs.declared.states.SuspState.{SuspState}
use Rattle.lazy_rec.specs.Named.{is_pending}
use Rattle.heap_store.specs.declared.nodes.Node.{Node}
use Rattle.heap_store.specs.World.{World, recs, state_at, node_at}
use Rattle.force_engine.specs.declared.shown.Peek.TheVariants as peeks
use Rattle.force_engine.specs.Shown.{shown_of, shown_at}

pub shown_value : (w : World) (s : Ref) (r : Rec) → recs w s.0 ≡ Some r → is_pending r ≡ false → shown_at w s ≡ Some (peeks.Value s)
shown_value w s r e p = go (node_at w s.0) e
  where
    go : (o : Option Node) → option_map (λ (n : Node). n.rec) o ≡ Some r → option_map (λ (n : Node). cond (is_pending n.rec) (shown_of n.state) (peeks.Value s)) o ≡ Some (peeks.Value s)
    go None k = cc
    go (Some n) k = let same : n.rec ≡ r = cc in rw (same, p) refl

pub shown_pending : (w : World) (s : Ref) (r : Rec) (state : SuspState) → recs w s.0 ≡ Some r → is_pending r ≡ true → state_at w s.0 ≡ Some state → shown_at w s ≡ Some (shown_of state)
shown_pending w s r state e p h = go (node_at w s.0) e h
  where
    go : (o : Option Node) → option_map (λ (n : Node). n.rec) o ≡ Some r → option_map (λ (n : Node). n.state) o ≡ Some state → option_map (λ (n : Node). cond (is_pending n.rec) (shown_of n.state) (peeks.Value s)) o ≡ Some (shown_of state)
    go None k l = cc
    go (Some n) k l = let same : n.rec ≡ r = cc in let same' : n.state ≡ state = cc in rw (same, p, same') refl
