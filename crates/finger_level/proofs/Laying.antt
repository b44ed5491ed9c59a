-- Runs that are filled part by part.
use Rattle.std.proofs.Common.{◌≡◌, ℕ, suc, ◌+◌, ◌-◌, ◌<◌, ◌≤◌, Some, refl, ap, ◌∙◌, arith, true, false, List, [], length}
use Rattle.std.specs.Prelude.{flat_map}
use Rattle.lazy_rec.specs.declared.places.Ref.{Ref}
use Rattle.lazy_rec.specs.declared.records.Rec.{Rec}
use Rattle.lazy_rec.specs.Meaning.{means}
use Rattle.lazy_rec.specs.Units.{family_of}
use Rattle.heap_store.specs.Span.{Span}
use Rattle.heap_store.specs.World.{World, recs}
use Rattle.heap_store.specs.Growth.{Grows}
use Rattle.heap_store.specs.Lawful.{IsLawful}
use Rattle.heap_store.specs.Hand.{Hand, IsInHand, contains, is_later}
use Rattle.heap_store.specs.View.{View, IsLawfulView, Fits, Put, Quiet, purse}
use Rattle.heap_store.proofs.Steps.{Quiet_refl, filling_start, filling_quiet, filling_put, Filled-none, unpassed_put, unpassed_quiet}
use Rattle.heap_store.proofs.FillLaws.{Filled_trans}
use Rattle.heap_store.proofs.PutLaws.{place_fits}
use Rattle.heap_store.proofs.UnitLaws.{free}
use Rattle.heap_store.specs.Budget.{gain_at}
use Rattle.lazy_rec.specs.Named.{Records}
use Rattle.lazy_rec.specs.Units.{paid}
use Rattle.finger_level.specs.declared.few.Few.{Few}
use Rattle.finger_level.specs.declared.few.Few.TheVariants as few
use Rattle.finger_level.specs.declared.few.Group.{Group}
use Rattle.finger_level.specs.declared.few.Group.TheVariants as group
use Rattle.finger_level.specs.declared.few.Weight.{Weight}
use Rattle.finger_level.specs.Few.{few_list, group_list, digit_record, node_record}
use Rattle.finger_level.specs.declared.level.Digit.{Digit}
use Rattle.finger_level.specs.declared.level.Digit.TheVariants as digits
use Rattle.finger_level.specs.Puts.{Laid, AreElements, PartAsk, DigitPut}
use Rattle.finger_level.specs.Reads.{IsThere, IsUnder}
use Rattle.finger_level.proofs.Records.{fits_finger}
use Rattle.finger_level.proofs.Builds.{elements_up, items_up, node_well, digit_well}

-- ---- one put

pub laid_put : {a b c : View} {run run' : Span} {r : Rec} → IsInHand a.hand run → Quiet a b → Put b c run.next r → run' ≡ record run { next = run.next + 1 } → is_later run.next r ≡ false → paid (recs b.seen) run.next r ≡ [] → Laid a c run run' 1
laid_put {a} {b} {c} {run} {run'} {r} held q p e later none =
    let f = filling_put (filling_quiet (filling_start a run held) q) p e none in
    record {
      filled = f.filled;
      next = ap (λ (z : Span). z.next) e;
      end = f.same_end;
      held = f.held;
      unpassed = λ s k. unpassed_put p later s (unpassed_quiet q s k);
      credits = omega (arith, f.credits);
    }

-- no put costs more than what its record shows first
pub put_costs : {a b : View} {p : ℕ} {r : Rec} → Put a b p r → a.hand.credits ≤ b.hand.credits + gain_at a.seen p r
put_costs {a} {b} {p} {r} q = let e : b.hand.credits ≡ purse a - gain_at a.seen p r = ap (λ (h : Hand). h.credits) q.hand in omega (arith, e)

-- ---- one part after another

pub laid_trans : {a b c : View} {x y z : Span} {m n : ℕ} → Laid a b x y m → Laid b c y z n → Laid a c x z (m + n)
laid_trans {a} {b} {c} {x} {y} {z} {m} {n} f g = record {
  filled = Filled_trans (omega (arith, f.next)) (omega (arith, g.next)) f.filled g.filled;
  next = omega (arith, f.next, g.next);
  end = g.end ∙ f.end;
  held = g.held;
  unpassed = λ s k. g.unpassed s (f.unpassed s k);
  credits = omega (arith, f.credits, g.credits);
}

-- ---- nodes and digits

node_own : (p : ℕ) (b : Group) (w : Weight) → family_of p (node_record b w) ≡ (p, 0)
node_own p (group.Two x y) w = refl
node_own p (group.Three x y z) w = refl

digit_own : (p : ℕ) (f : Few) (w : Weight) → family_of p (digit_record f w) ≡ (p, 0)
digit_own p (few.One x) w = refl
digit_own p (few.Two x y) w = refl
digit_own p (few.Three x y z) w = refl
digit_own p (few.Four x y z u) w = refl

pub node_later : (p : ℕ) (b : Group) (w : Weight) → is_later p (node_record b w) ≡ false
node_later p b w = rw (node_own p b w) refl

pub digit_later : (p : ℕ) (f : Few) (w : Weight) → is_later p (digit_record f w) ≡ false
digit_later p f w = rw (digit_own p f w) refl

-- neither shows a unit
pub node_free : (rs : Records) (p : ℕ) (b : Group) (w : Weight) → paid rs p (node_record b w) ≡ []
node_free rs p (group.Two x y) w = refl
node_free rs p (group.Three x y z) w = refl

pub digit_free : (rs : Records) (p : ℕ) (f : Few) (w : Weight) → paid rs p (digit_record f w) ≡ []
digit_free rs p (few.One x) w = refl
digit_free rs p (few.Two x y) w = refl
digit_free rs p (few.Three x y z) w = refl
digit_free rs p (few.Four x y z u) w = refl

-- elements in a later world
pub are_up : {a b : World} → IsLawful a → Grows a b → (d limit : ℕ) (es : List ℕ) → AreElements a d limit es → AreElements b d limit es
are_up law g d limit es k = record { each = elements_up law g d limit limit (omega arith) es k.each; small = rw (← items_up law g d limit es k.each) k.small }

pub node_fits : {a : World} {v : View} → IsLawful a → Grows a v.seen → IsLawfulView v → (d p : ℕ) → contains v.hand.reserved p ≡ true → (b : Group) (w : Weight) → AreElements a d p (group_list b) → w.size ≡ length (flat_map (means (recs a)) (group_list b)) → w.key.0 < 18446744073709551616 → Fits v p (node_record b w)
node_fits {v = v} law0 g law d p held b w k size key =
    fits_finger law p held (node_record b w) (suc d) (node_well law.world d p p (omega arith) (place_fits law p held) b w (are_up law0 g d p _ k) (size ∙ ap length (items_up law0 g d p _ k.each)) key) (node_own p b w) (free v.seen p (node_record b w) (purse v) (node_free (recs v.seen) p b w))

pub digit_fits : {a : World} {v : View} → IsLawful a → Grows a v.seen → IsLawfulView v → (d p : ℕ) → contains v.hand.reserved p ≡ true → (f : Few) (w : Weight) → AreElements a d p (few_list f) → w.size ≡ length (flat_map (means (recs a)) (few_list f)) → w.key.0 < 18446744073709551616 → Fits v p (digit_record f w)
digit_fits {v = v} law0 g law d p held f w k size key =
    fits_finger law p held (digit_record f w) d (digit_well law.world d p p (omega arith) (place_fits law p held) f w (are_up law0 g d p _ k) (size ∙ ap length (items_up law0 g d p _ k.each)) key) (digit_own p f w) (free v.seen p (digit_record f w) (purse v) (digit_free (recs v.seen) p f w))

pub laid_none : {a : View} {run : Span} → IsInHand a.hand run → Laid a a run run 0
laid_none {a} {run} held = record { filled = Filled-none a run.next; next = omega arith; end = refl; held = held; unpassed = λ s k. k; credits = omega arith }

-- nothing was put, whatever was read
pub laid_quiet : {a b : View} {run : Span} → IsInHand a.hand run → Quiet a b → Laid a b run run 0
laid_quiet {a} {b} {run} held q = let f = filling_quiet (filling_start a run held) q in record { filled = f.filled; next = omega arith; end = refl; held = f.held; unpassed = λ s k. unpassed_quiet q s k; credits = omega (arith, f.credits) }

-- what the put of a part asks, after reads
pub part_later : {a b : View} {run : Span} {count : ℕ} → IsLawful a.seen → Quiet a b → (es : List ℕ) → PartAsk a run count es → PartAsk b run count es
part_later {a} {b} {run} law q es k = record { depth = k.depth; elements = are_up law q.grows k.depth run.next es k.elements; held = rw q.hand k.held; room = k.room }

-- a digit that stands already
pub old_put : {a : View} {run : Span} (part : Digit) (place : Ref) (f : Few) → part ≡ digits.Old place f → IsInHand a.hand run → IsThere a.seen part → IsUnder run.next part → DigitPut a a run run part place.0
old_put part place f e held there under = rw e (record { laid = laid_none held; under = rw e at under; shown = rw e at there })

pub new_put : {a b : View} {run run' : Span} (f : Few) (w : Weight) (r : Rec) (place : ℕ) → r ≡ digit_record f w → IsInHand a.hand run → Put a b run.next r → run' ≡ record run { next = run.next + 1 } → place ≡ run.next → DigitPut a b run run' (digits.New f) place
new_put {a} {b} {run} {run'} f w r place same held p after at = rw at (record {
  laid = laid_put held (Quiet_refl a) p after (rw same (digit_later run.next f w)) (rw same (digit_free (recs a.seen) run.next f w));
  under = rw after (omega arith);
  shown = record { weight = w; here = p.here ∙ ap Some same };
})

-- a digit that was put after reads
pub put_after : {a b c : View} {run run' : Span} {place : ℕ} (part : Digit) (f : Few) → part ≡ digits.New f → IsInHand a.hand run → Quiet a b → DigitPut b c run run' (digits.New f) place → DigitPut a c run run' part place
put_after part f e held q k = rw e (record { laid = laid_trans (laid_quiet held q) k.laid; under = k.under; shown = k.shown })
