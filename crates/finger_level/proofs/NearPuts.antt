-- The put of a deep tree of which only the digit of one side is new.
use Rattle.std.proofs.Common.{◌≡◌, ℕ, ◌+◌, ◌<◌, refl, arith, Bool, Some}
use Rattle.lazy_rec.specs.declared.places.Ref.{Ref}
use Rattle.lazy_rec.specs.declared.records.Rec.TheVariants.{Deep}
use Rattle.heap_store.specs.Span.{Span}
use Rattle.heap_store.specs.World.{World}
use Rattle.heap_store.specs.Lawful.{IsLawful}
use Rattle.heap_store.specs.Completion as top
use Rattle.heap_store.specs.View.{View, IsLawfulView, Fits, Put}
use Rattle.finger_level.specs.declared.few.Few.{Few}
use Rattle.finger_level.specs.declared.few.Weight.{Weight}
use Rattle.finger_level.specs.declared.level.Digit.{Digit}
use Rattle.finger_level.specs.declared.level.Digit.TheVariants as digits
use Rattle.finger_level.specs.declared.level.Middle.{Middle}
use Rattle.finger_level.specs.declared.level.Middle.TheVariants as middles
use Rattle.finger_level.specs.declared.level.Family.{Family}
use Rattle.finger_level.specs.declared.level.Side.{Side}
use Rattle.finger_level.specs.declared.level.Side.TheVariants as sides
use Rattle.finger_level.specs.Few.{few_list}
use Rattle.finger_level.specs.Level.{middle_of, middle_places}
use Rattle.finger_level.specs.Keyed.{HasKeys}
use Rattle.finger_level.specs.Puts.{PartAsk, DigitPut, EndsAsk, EndsPut, LevelAsk, LevelPut, MiddleAsk, MiddlePut}
use Rattle.finger_level.specs.Pops.{both_ends, level_by}
use Rattle.finger_level.specs.NearPuts.{near_digits}
use Rattle.finger_level.specs.Reads.{IsDigitAt}
use Rattle.finger_level.proofs.Laying.{old_put}
use Rattle.finger_level.proofs.Levels.{there_up, under_up, first_ask, last_ask, ends_left, ends_fits, ends_put, middle_ask, ends_ask, put_made}
use Rattle.finger_level.proofs.Pushing.{tree_put}

-- both digits of a deep tree, one after the other
record Both (v c : View) (run z : Span) (left right : Digit) (x q : ℕ) : Type 0 where
  pub mid : View
  pub span : Span
  pub first : DigitPut v mid run span left x
  pub last : DigitPut mid c span z right q

module _ {v : View} {run : Span} (law : IsLawfulView v) (side : Side) (near : Few) (middle far : Ref) (other : Few) (whole : Weight) (k : EndsAsk v run (near_digits side near far other).0 middle.0 (near_digits side near far other).1 whole.size) where
  pub near_part : PartAsk v run 1 (few_list near)
  near_part = by side k
    where
      by : (side : Side) → EndsAsk v run (near_digits side near far other).0 middle.0 (near_digits side near far other).1 whole.size → PartAsk v run 1 (few_list near)
      by sides.Left k = first_ask law (digits.New near) middle (digits.Old far other) whole k
      by sides.Right k = last_ask law (digits.Old far other) middle (digits.New near) whole k (old_put (digits.Old far other) far other refl k.held k.there.0 k.under.0)

  pub far_there : IsDigitAt v.seen far.0 other
  far_there = by side k
    where
      by : (side : Side) → EndsAsk v run (near_digits side near far other).0 middle.0 (near_digits side near far other).1 whole.size → IsDigitAt v.seen far.0 other
      by sides.Left k = k.there.1
      by sides.Right k = k.there.0

  module _ {c : View} {z : Span} (digit : Ref) (p : DigitPut v c run z (digits.New near) digit.0) (ends : Ref × Ref) (is : ends ≡ both_ends side digit far) where
    both : Both v c run z (near_digits side near far other).0 (near_digits side near far other).1 ends.0.0 ends.1.0
    both = by side k is
      where
        by : (side : Side) → EndsAsk v run (near_digits side near far other).0 middle.0 (near_digits side near far other).1 whole.size → ends ≡ both_ends side digit far → Both v c run z (near_digits side near far other).0 (near_digits side near far other).1 ends.0.0 ends.1.0
        by sides.Left k e = rw e (record { mid = c; span = z; first = p; last = old_put (digits.Old far other) far other refl p.laid.held (there_up p.laid.filled.grows (digits.Old far other) k.there.1) (under_up run.next z.next (omega (arith, p.laid.next)) (digits.Old far other) k.under.1) })
        by sides.Right k e = rw e (record { mid = v; span = run; first = old_put (digits.Old far other) far other refl k.held k.there.0 k.under.0; last = p })

    pub near_left : z.next < z.end
    near_left = ends_left law (near_digits side near far other).0 middle (near_digits side near far other).1 whole k both.first both.last

    pub near_fits : IsLawfulView c → whole.key.0 < 18446744073709551616 → Fits c z.next (Deep ends.0 middle ends.1 whole.size whole.key)
    near_fits law2 key = ends_fits law (near_digits side near far other).0 middle (near_digits side near far other).1 whole k both.first both.last law2 key ends.0 ends.1 refl refl

    pub near_put : {n : View} {e : Span} {place : ℕ} → Put c n z.next (Deep ends.0 middle ends.1 whole.size whole.key) → e ≡ record z { next = z.next + 1 } → place ≡ z.next → EndsPut v n run e (near_digits side near far other).0 middle (near_digits side near far other).1 whole place
    near_put q after at = ends_put law (near_digits side near far other).0 middle (near_digits side near far other).1 whole k both.first both.last ends.0 ends.1 refl refl q after at

-- the keys of both digits
pub both_keyed : (w : World) (keyed : Bool) (side : Side) (digit far : Ref) (ends : Ref × Ref) → ends ≡ both_ends side digit far → HasKeys keyed w digit.0 → HasKeys keyed w far.0 → HasKeys keyed w ends.0.0 × HasKeys keyed w ends.1.0
both_keyed w keyed sides.Left digit far ends e a b = rw e (a, b)
both_keyed w keyed sides.Right digit far ends e a b = rw e (b, a)

-- ---- as a level

-- over any middle, which is put first
module _ {v : View} {run : Span} (law : IsLawfulView v) (near : Few) (m : Middle) (far : Ref) (other : Few) (family : Family) (whole : Weight) where
  pub over_middle : (side : Side) → LevelAsk v run (level_by side near m (digits.Old far other)) family whole → MiddleAsk v run m family
  over_middle sides.Left k = middle_ask law (digits.New near) m (digits.Old far other) family whole k
  over_middle sides.Right k = middle_ask law (digits.Old far other) m (digits.New near) family whole k

  module _ {b : View} {y : Span} (below : Ref) (mp : MiddlePut v b run y family (middle_places m) (middle_of m) below.0) where
    pub over_ask : (side : Side) → LevelAsk v run (level_by side near m (digits.Old far other)) family whole → EndsAsk b y (near_digits side near far other).0 below.0 (near_digits side near far other).1 whole.size
    over_ask sides.Left k = ends_ask law (digits.New near) m (digits.Old far other) family whole k below mp
    over_ask sides.Right k = ends_ask law (digits.Old far other) m (digits.New near) family whole k below mp

    pub over_level : (side : Side) → LevelAsk v run (level_by side near m (digits.Old far other)) family whole → IsLawful b.seen → {n : View} {e : Span} {place : ℕ} → IsLawful n.seen → EndsPut b n y e (near_digits side near far other).0 below (near_digits side near far other).1 whole place → LevelPut v n run e family (level_by side near m (digits.Old far other)) place
    over_level sides.Left k law1 law2 p = put_made law (digits.New near) m (digits.Old far other) family whole k below mp law1 law2 p
    over_level sides.Right k law1 law2 p = put_made law (digits.Old far other) m (digits.New near) family whole k below mp law1 law2 p

-- over a middle that stands
module _ {v : View} {run : Span} (law : IsLawfulView v) (near : Few) (middle far : Ref) (other : Few) (family : Family) (whole : Weight) (side : Side) (k : LevelAsk v run (level_by side near (middles.Tree (Some middle)) (digits.Old far other)) family whole) where
  stands : MiddlePut v v run run family 0 (top.tree (Some middle.0)) middle.0
  stands = tree_put (middles.Tree (Some middle)) (Some middle) family refl law.world (over_middle law near (middles.Tree (Some middle)) far other family whole side k) middle refl

  pub near_ask : EndsAsk v run (near_digits side near far other).0 middle.0 (near_digits side near far other).1 whole.size
  near_ask = over_ask law near (middles.Tree (Some middle)) far other family whole middle stands side k

  pub near_level : {n : View} {e : Span} {place : ℕ} → IsLawful n.seen → EndsPut v n run e (near_digits side near far other).0 middle (near_digits side near far other).1 whole place → LevelPut v n run e family (level_by side near (middles.Tree (Some middle)) (digits.Old far other)) place
  near_level law2 p = over_level law near (middles.Tree (Some middle)) far other family whole middle stands side k law.world law2 p
