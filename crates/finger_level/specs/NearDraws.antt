-- The put of the level that a middle's value and one digit make.
use Rattle.std.specs.Prelude.{◌≡◌, ℕ, Bool, length}
use Rattle.lazy_rec.specs.Meaning.{means}
use Rattle.heap_store.specs.Span.{Span}
use Rattle.heap_store.specs.World.{World, recs}
use Rattle.heap_store.specs.Lawful.{IsLawful}
use Rattle.heap_store.specs.View.{View, Quiet}
use Rattle.finger_level.specs.declared.few.Group.{Group}
use Rattle.finger_level.specs.declared.few.Weight.{Weight}
use Rattle.finger_level.specs.declared.few.WeighedFew.{WeighedFew}
use Rattle.finger_level.specs.declared.level.Level.{Level}
use Rattle.finger_level.specs.declared.level.Side.{Side}
use Rattle.finger_level.specs.declared.level.Family.{Family}
use Rattle.finger_level.specs.Few.{few_of_group}
use Rattle.finger_level.specs.Level.{made_of, items_of_made}
use Rattle.finger_level.specs.Keyed.{HasKeys, KeyedLevel, key_in}
use Rattle.finger_level.specs.Reads.{IsNodeAt}
use Rattle.finger_level.specs.Puts.{LevelAsk, LevelPut}
use Rattle.finger_level.specs.Pops.{IsDrawn}

-- a node at a place: its elements as those of a digit, and how many items it has
pub record IsWeighedNode (w : World) (e : ℕ) (node : WeighedFew) : Type 0 where
  pub group : Group
  pub few : node.few ≡ few_of_group group
  pub shown : IsNodeAt w group e
  pub size : node.weight.size ≡ length (means (recs w) e)
  pub bare : node.weight.key.0 ≡ 0

-- what the put asks: whatever is read before, the level can be put
abbrev pub DrawnAsk : View → Span → Side → ℕ → ℕ → Family → Weight → Type 0
DrawnAsk v run side q p family whole = (c : View) → Quiet v c → IsLawful c.seen → (level : Level) → IsDrawn c.seen side q p level → LevelAsk c run level family whole

-- after reads, the level was put that the middle's value at q and the digit at p make
pub record DrawnPut (old new : View) (before after : Span) (side : Side) (q p : ℕ) (family : Family) (keyed : Bool) (whole : Weight) (place : ℕ) : Type 0 where
  pub then_view : View
  pub quiet : Quiet old then_view
  pub law : IsLawful then_view.seen
  pub level : Level
  pub drawn : IsDrawn then_view.seen side q p level
  pub put : LevelPut then_view new before after family level place
  pub keys : KeyedLevel keyed then_view.seen level → whole.key.0 ≡ key_in keyed (items_of_made (means (recs then_view.seen)) (made_of level)) → HasKeys keyed new.seen place
