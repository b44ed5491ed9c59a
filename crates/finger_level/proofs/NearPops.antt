-- The put of what a pop leaves of a tree.
use Rattle.std.proofs.Common.{◌≡◌, ℕ, suc, ◌+◌, ◌-◌, ◌≤◌, refl, sym, ap, ◌∙◌, arith, Bool, true, Option, Some, None, [], ◌∷◌, length}
use Rattle.std.specs.Prelude.{flat_map}
use Rattle.std.specs.List.{AllByRecursion}
use Rattle.std.proofs.lemmas.List.{append-nil}
use Rattle.lazy_rec.specs.declared.places.Ref.{Ref}
use Rattle.lazy_rec.specs.Meaning.{means}
use Rattle.heap_store.specs.Span.{Span}
use Rattle.heap_store.specs.World.{World, recs, holds}
use Rattle.heap_store.specs.Growth.{Grows}
use Rattle.heap_store.specs.Lawful.{IsLawful}
use Rattle.heap_store.specs.Values.{value_place}
use Rattle.heap_store.specs.View.{View, IsLawfulView, Quiet}
use Rattle.heap_store.proofs.Steps.{Quiet_trans}
use Rattle.finger_level.specs.declared.few.Few.{Few}
use Rattle.finger_level.specs.declared.few.Weight.{Weight}
use Rattle.finger_level.specs.declared.level.Digit.TheVariants as digits
use Rattle.finger_level.specs.declared.level.Middle.TheVariants as middles
use Rattle.finger_level.specs.declared.level.Level.{Level}
use Rattle.finger_level.specs.declared.level.Family.{Family}
use Rattle.finger_level.specs.declared.level.Side.{Side}
use Rattle.finger_level.specs.declared.level.Side.TheVariants as sides
use Rattle.finger_level.specs.Few.{few_list}
use Rattle.finger_level.specs.Level.{made_of, middle_of, middle_items, items_of_made}
use Rattle.finger_level.specs.Keyed.{HasKeys, AreKeyed, KeyedLevel, key_in}
use Rattle.finger_level.specs.Reads.{is_element, is_digit_rec, IsDigitAt}
use Rattle.finger_level.specs.Pushes.{beside}
use Rattle.finger_level.specs.Puts.{IsElement, LevelAsk}
use Rattle.finger_level.specs.Pops.{level_by, IsUpper, IsDrawn, IsWhole, IsRootAt, IsRest}
use Rattle.finger_level.specs.NearPuts.{NearAsk, NearPut}
use Rattle.finger_level.specs.NearDraws.{DrawnAsk, DrawnPut}
use Rattle.finger_level.specs.NearPops.{PoppedAsk, PoppedPut}
use Rattle.finger_level.proofs.Draws.{deep_digits, all_near, both_flat, by_elements, by_items}
use Rattle.finger_level.proofs.Families.{tree_size}
use Rattle.finger_level.proofs.Found.{IsValueAt, digit_grows, value_tree}
use Rattle.finger_level.proofs.Keying.{keyed_up}
use Rattle.finger_level.proofs.NearPuts.{near_ask, near_level}
use Rattle.finger_level.proofs.Popping.{Taking, deep_middle, middle_upper, few_there, found_up, rest_of_some, rest_of_none, rest_waits}
use Rattle.finger_level.proofs.Pushing.{both_length}
use Rattle.finger_level.proofs.Weighing.{sorts_of_elements}

-- ---- after reads

pub ask_later : {v c : View} {run : Span} {side : Side} {q : ℕ} {family : Family} {whole : Weight} → Quiet v c → PoppedAsk v run side q family whole → PoppedAsk c run side q family whole
ask_later q k = record {
  some = λ d r law. k.some d (Quiet_trans q r) law;
  known = λ d r law. k.known d (Quiet_trans q r) law;
  rest = λ d r law. k.rest d (Quiet_trans q r) law;
}

pub put_earlier : {v c n : View} {run z : Span} {side : Side} {q : ℕ} {family : Family} {keyed : Bool} {whole : Weight} {place : ℕ} → IsLawful v.seen → Quiet v c → PoppedPut c n run z side q family keyed whole place → PoppedPut v n run z side q family keyed whole place
put_earlier law q k = record {
  then_view = k.then_view;
  quiet = Quiet_trans q k.quiet;
  law = k.law;
  element = k.element;
  level = k.level;
  rest = k.rest;
  put = k.put;
  keys = λ h e. k.keys (keyed_up law q.grows _ _ h) e;
}

pub taking_up : {a b : World} → Grows a b → {side : Side} {root : ℕ} {left middle right near far e : Ref} {rest : _} {n : Few} → Taking a side root left middle right near far e rest n → Taking b side root left middle right near far e rest n
taking_up g k = record { size = k.size; key = k.key; here = g.records _ _ k.here; ends = k.ends; near_at = digit_grows g _ _ k.near_at; taken = k.taken }

-- ---- elements of the digit are left

parts_keyed : (w : World) (keyed : Bool) (side : Side) (rest g : Few) (middle far : Ref) → KeyedLevel keyed w (level_by side rest (middles.Tree (Some middle)) (digits.Old far g)) → AreKeyed keyed w (few_list rest) × (HasKeys keyed w middle.0 × HasKeys keyed w far.0)
parts_keyed w keyed sides.Left rest g middle far h = (h.0, (h.1.1.0, h.2.0))
parts_keyed w keyed sides.Right rest g middle far h = (h.2, (h.1.1.0, h.0.0))

-- what is weighed: the element's items are those that the whole has no more
pub record Lessened (w : World) (rest : Few) (size : ℕ) (whole : Weight) (digit : ℕ) : Type 0 where
  pub below : whole.size ≤ size
  pub elements : AllByRecursion (λ p. holds (recs w) p is_element ≡ true) (few_list rest)
  pub small : length (flat_map (means (recs w)) (few_list rest)) ≤ 2147483647
  pub counts : digit ≡ size - whole.size + length (flat_map (means (recs w)) (few_list rest))

-- the other digit
pub other_few : {w : World} → IsLawful w → (side : Side) (root : ℕ) (left middle right near far e : Ref) (rest : Option Few) (n : Few) → Taking w side root left middle right near far e rest n → (g : Few) × IsDigitAt w far.0 g
other_few law side root left middle right near far e rest n k = few_there law far.0 (deep_digits law root left middle right k.size k.key k.here side near far k.ends).1

module _ {w : World} (law : IsLawful w) (side : Side) (root : ℕ) (left middle right near far e : Ref) (rest n : Few) (k : Taking w side root left middle right near far e (Some rest) n) where
  pub far_few : (g : Few) × IsDigitAt w far.0 g
  far_few = other_few law side root left middle right near far e (Some rest) n k

  pub left_rest : (g : Few) → IsDigitAt w far.0 g → IsRest w side root e.0 (level_by side rest (middles.Tree (Some middle)) (digits.Old far g))
  left_rest g at = rest_of_some law side root left middle right near far e rest n g k at

  pub left_keyed : (keyed : Bool) → HasKeys keyed w root → AreKeyed keyed w (few_list rest) × (HasKeys keyed w middle.0 × HasKeys keyed w far.0)
  left_keyed keyed h = parts_keyed w keyed side rest far_few.0 middle far ((left_rest far_few.0 far_few.1).keyed keyed h)

  module _ (u : IsWhole w root) where
    abbrev left_level : Level
    left_level = level_by side rest (middles.Tree (Some middle)) (digits.Old far far_few.0)

    -- a place above the root, and above what the rest is drawn from
    abbrev above : ℕ
    above = suc (root + (left_rest far_few.0 far_few.1).from)

    at_root : IsRootAt w u.depth above root (left_rest far_few.0 far_few.1).from
    at_root = record { of_level = u.of_level; root_low = omega arith; from_low = omega arith }

    pub rest_each : AllByRecursion (IsElement w u.depth above) (few_list rest)
    rest_each = all_near (IsElement w u.depth above) side (few_list rest) (few_list far_few.0) (rw (by_elements side rest (middles.Tree (Some middle)) far far_few.0 refl) at ((left_rest far_few.0 far_few.1).parts u.depth above at_root).elements)

    pub lessened : (whole : Weight) (digit : ℕ) → whole.size ≡ length (items_of_made (means (recs w)) (made_of left_level)) → digit ≡ length (flat_map (means (recs w)) (few_list n)) → Lessened w rest k.size whole digit
    lessened whole digit counts weighs =
        let i = means (recs w) in
        let r = left_rest far_few.0 far_few.1 in
        let t = tree_size law root _ k.here refl in
        let all = ap length (r.items u.depth above at_root) ∙ both_length side (i e.0) (items_of_made i (made_of left_level)) in
        let own : length (flat_map i (few_list n)) ≡ length (i e.0) + length (flat_map i (few_list rest)) = ap (λ xs. length (flat_map i xs)) (sym k.taken) ∙ (ap length (both_flat i side (e.0 ∷ []) (few_list rest)) ∙ (both_length side (flat_map i (e.0 ∷ [])) (flat_map i (few_list rest)) ∙ ap (λ xs. length xs + length (flat_map i (few_list rest))) (append-nil (i e.0)))) in
        let split = ap length (by_items i side rest (middles.Tree (Some middle)) far far_few.0) ∙ both_length side (beside side (flat_map i (few_list rest)) (middle_items i (middle_of (middles.Tree (Some middle))))) (flat_map i (few_list far_few.0)) in
        let inner = both_length side (flat_map i (few_list rest)) (middle_items i (middle_of (middles.Tree (Some middle)))) in
        record {
          below = omega (arith, t.counts, all, counts);
          elements = sorts_of_elements law u.depth above (few_list rest) rest_each;
          small = (let s = (r.parts u.depth above at_root).small in omega (arith, split, inner, s));
          counts = omega (arith, t.counts, all, counts, own, weighs);
        }

-- ---- what is put

module _ {a c : View} {run : Span} (law : IsLawfulView c) (side : Side) (root : ℕ) (left middle right near far e : Ref) (rest n : Few) (k : Taking c.seen side root left middle right near far e (Some rest) n) (family : Family) (whole : Weight) (q : Quiet a c) (ask : PoppedAsk a run side root family whole) where
  pub left_ask : (g : Few) → IsDigitAt c.seen far.0 g → LevelAsk c run (level_by side rest (middles.Tree (Some middle)) (digits.Old far g)) family whole
  left_ask g at = ask.rest c q law.world e.0 _ (left_rest law.world side root left middle right near far e rest n k g at)

  pub left_near : NearAsk c run side rest middle far whole
  left_near = let g = far_few law.world side root left middle right near far e rest n k in record { other = g.0; ends = near_ask law rest middle far g.0 family whole side (left_ask g.0 g.1) }

  pub left_put : {b : View} {z : Span} {place : ℕ} (weight : Weight) (keyed : Bool) → IsLawful a.seen → IsLawful b.seen → NearPut c b run z side rest middle far whole place
      → ((keyed : Bool) → AreKeyed keyed c.seen (few_list rest) → weight.key.0 ≡ key_in keyed (flat_map (means (recs c.seen)) (few_list rest)) → HasKeys keyed c.seen middle.0 → HasKeys keyed c.seen far.0 → whole.key.0 ≡ key_in keyed (means (recs b.seen) place) → HasKeys keyed b.seen place)
      → (HasKeys keyed a.seen root → weight.key.0 ≡ key_in keyed (flat_map (means (recs c.seen)) (few_list rest))) → PoppedPut a b run z side root family keyed whole place
  left_put {b} {z} {place} weight keyed law0 law2 p made key =
      let put = near_level law rest middle far p.other family whole side (left_ask p.other p.there) law2 p.ends in
      record {
        then_view = c;
        quiet = q;
        law = law.world;
        element = e.0;
        level = level_by side rest (middles.Tree (Some middle)) (digits.Old far p.other);
        rest = left_rest law.world side root left middle right near far e rest n k p.other p.there;
        put = put;
        keys = λ h same. (
            let parts = left_keyed law.world side root left middle right near far e rest n k keyed (keyed_up law0 q.grows keyed root h) in
            made keyed parts.0 (key h) parts.1.0 parts.1.1 (same ∙ ap (key_in keyed) (sym put.items)));
      }

-- ---- nothing of the digit is left

module _ {w : World} (law : IsLawful w) (side : Side) (root : ℕ) (left middle right near far e : Ref) (n : Few) (k : Taking w side root left middle right near far e None n) (q : ℕ) (at : value_place w middle.0 ≡ Some q) where
  pub none_value : IsValueAt w middle.0 q
  none_value = value_tree law middle.0 q (deep_middle law root left middle right k.size k.key k.here) at

  pub none_upper : IsWhole w root → IsUpper w q
  none_upper u = middle_upper law root u left middle right k.size k.key k.here q none_value

  pub none_digit : holds (recs w) far.0 is_digit_rec ≡ true
  none_digit = (deep_digits law root left middle right k.size k.key k.here side near far k.ends).1

  none_rest : (level : Level) → IsDrawn w side q far.0 level → IsRest w side root e.0 level
  none_rest level d = let g = few_there law far.0 none_digit in rest_of_none law side root left middle right near far e n k g.0 g.1 q at none_value level d

module _ {a c : View} {run : Span} (law : IsLawfulView c) (side : Side) (root : ℕ) (left middle right near far e : Ref) (n : Few) (k : Taking c.seen side root left middle right near far e None n) (family : Family) (whole : Weight) (quiet : Quiet a c) (ask : PoppedAsk a run side root family whole) where
  pub none_ask : (q : ℕ) → value_place c.seen middle.0 ≡ Some q → DrawnAsk c run side q far.0 family whole
  none_ask q at = λ d r law2 level m. ask.rest d (Quiet_trans quiet r) law2 e.0 level (none_rest law2 side root left middle right near far e n (taking_up r.grows k) q (found_up law.world r.grows middle.0 q at) level m)

  pub none_put : {m : View} {z : Span} {keyed : Bool} {place : ℕ} (q : ℕ) → value_place c.seen middle.0 ≡ Some q → IsLawful a.seen → DrawnPut c m run z side q far.0 family keyed whole place → PoppedPut a m run z side root family keyed whole place
  none_put {keyed = keyed} q at law0 p =
      let r = none_rest p.law side root left middle right near far e n (taking_up p.quiet.grows k) q (found_up law.world p.quiet.grows middle.0 q at) p.level p.drawn in
      let up = Quiet_trans quiet p.quiet in
      record {
        then_view = p.then_view;
        quiet = up;
        law = p.law;
        element = e.0;
        level = p.level;
        rest = r;
        put = p.put;
        keys = λ h same. p.keys (r.keyed keyed (keyed_up law0 up.grows keyed root h)) same;
      }

  -- the middle isn't pending
  pub none_pending : value_place c.seen middle.0 ≡ None → ⊥
  none_pending none =
      let g = few_there law.world far.0 (deep_digits law.world root left middle right k.size k.key k.here side near far k.ends).1 in
      ask.known c quiet law.world middle.0 (rest_waits law.world side root left middle right near far e n g.0 k g.1 none)
