-- The put of what a pop leaves of a tree.
use Rattle.std.specs.Prelude.{◌≡◌, ℕ, Bool, Some}
use Rattle.lazy_rec.specs.Meaning.{means}
use Rattle.heap_store.specs.Span.{Span}
use Rattle.heap_store.specs.World.{recs}
use Rattle.heap_store.specs.Completion.{empty}
use Rattle.heap_store.specs.Lawful.{IsLawful}
use Rattle.heap_store.specs.View.{View, Quiet}
use Rattle.finger_level.specs.declared.few.Weight.{Weight}
use Rattle.finger_level.specs.declared.level.Level.{Level}
use Rattle.finger_level.specs.declared.level.Side.{Side}
use Rattle.finger_level.specs.declared.level.Family.{Family}
use Rattle.finger_level.specs.Level.{made_of, items_of_made}
use Rattle.finger_level.specs.Keyed.{HasKeys, key_in}
use Rattle.finger_level.specs.Puts.{LevelAsk, LevelPut}
use Rattle.finger_level.specs.Pops.{shown_at, IsRest, IsToDraw}

-- what the put of a pop asks: whatever is read before, there is an element, no middle has to be a value first, and the level
-- that is left can be put
pub record PoppedAsk (v : View) (run : Span) (side : Side) (q : ℕ) (family : Family) (whole : Weight) : Type 0 where
  pub some : (c : View) → Quiet v c → IsLawful c.seen → shown_at c.seen q ≡ Some empty → ⊥
  pub known : (c : View) → Quiet v c → IsLawful c.seen → (m : ℕ) → IsToDraw c.seen side q m → ⊥
  pub rest : (c : View) → Quiet v c → IsLawful c.seen → (e : ℕ) (level : Level) → IsRest c.seen side q e level → LevelAsk c run level family whole

-- after reads, the level was put that is left without an element at the side
pub record PoppedPut (old new : View) (before after : Span) (side : Side) (q : ℕ) (family : Family) (keyed : Bool) (whole : Weight) (place : ℕ) : Type 0 where
  pub then_view : View
  pub quiet : Quiet old then_view
  pub law : IsLawful then_view.seen
  pub element : ℕ
  pub level : Level
  pub rest : IsRest then_view.seen side q element level
  pub put : LevelPut then_view new before after family level place
  pub keys : HasKeys keyed old.seen q → whole.key.0 ≡ key_in keyed (items_of_made (means (recs then_view.seen)) (made_of level)) → HasKeys keyed new.seen place
