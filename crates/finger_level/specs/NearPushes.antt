-- The put of a value onto which elements are pushed.
use Rattle.std.specs.Prelude.{◌≡◌, ℕ, Bool, [], ◌∷◌, length}
use Rattle.lazy_rec.specs.Meaning.{means}
use Rattle.heap_store.specs.Span.{Span}
use Rattle.heap_store.specs.World.{recs}
use Rattle.heap_store.specs.Lawful.{IsLawful}
use Rattle.heap_store.specs.View.{View, Quiet}
use Rattle.finger_level.specs.declared.few.Few.{Few}
use Rattle.finger_level.specs.declared.few.Weight.{Weight}
use Rattle.finger_level.specs.declared.near_pushes.Overflow.{Overflow}
use Rattle.finger_level.specs.declared.level.Level.{Level}
use Rattle.finger_level.specs.declared.level.Side.{Side}
use Rattle.finger_level.specs.declared.level.Pushed.{Pushed}
use Rattle.finger_level.specs.declared.level.Family.{Family}
use Rattle.finger_level.specs.Few.{few_list, group_list}
use Rattle.finger_level.specs.Level.{made_of, items_of_made}
use Rattle.finger_level.specs.Keyed.{HasKeys, AreKeyed, key_in}
use Rattle.finger_level.specs.Pushes.{pushed_list, beside, IsPushed}
use Rattle.finger_level.specs.Puts.{LevelAsk, LevelPut}

-- a full digit onto which an element is pushed keeps it and the one next to it, and the other three go into a node
pub record IsOverflow (side : Side) (e : ℕ) (few : Few) (over : Overflow) : Type 0 where
  pub kept : few_list over.kept ≡ beside side (e ∷ []) (over.next.0 ∷ [])
  pub three : length (group_list over.node) ≡ 3
  pub full : few_list few ≡ beside side (over.next.0 ∷ []) (group_list over.node)

-- what the push asks: whatever is read before, the level that it makes can be put
abbrev pub PushedAsk : View → Span → Side → Pushed → ℕ → Family → Weight → Type 0
PushedAsk v run side es q family whole = (c : View) → Quiet v c → IsLawful c.seen → (level : Level) → IsPushed c.seen side es q level → LevelAsk c run level family whole

-- after reads, the level that the push makes was put
pub record PushedPut (old new : View) (before after : Span) (side : Side) (es : Pushed) (q : ℕ) (family : Family) (keyed : Bool) (whole : Weight) (place : ℕ) : Type 0 where
  pub then_view : View
  pub quiet : Quiet old then_view
  pub law : IsLawful then_view.seen
  pub level : Level
  pub pushed : IsPushed then_view.seen side es q level
  pub put : LevelPut then_view new before after family level place
  pub keys : HasKeys keyed then_view.seen q → AreKeyed keyed then_view.seen (pushed_list es) → whole.key.0 ≡ key_in keyed (items_of_made (means (recs then_view.seen)) (made_of level)) → HasKeys keyed new.seen place
