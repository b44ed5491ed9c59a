-- Suspended tails: what their records say, and the level that they make.
use Rattle.std.proofs.Common.{◌≡◌, ℕ, suc, ◌+◌, ◌<◌, ◌≤◌, ltb, refl, sym, ap, ◌∙◌, arith, Bool, true, Some, None, [], ◌∷◌, length}
use Rattle.std.specs.Prelude.{option_and_then}
use Rattle.std.specs.List.{AllByRecursion, list_all}
use Rattle.std.proofs.lemmas.Bool.{and_parts, eqb-true, ltb-true}
use Rattle.lazy_rec.specs.declared.places.Ref.{Ref}
use Rattle.lazy_rec.specs.declared.records.Rec.{Rec}
use Rattle.lazy_rec.specs.declared.records.Sort.TheVariants as sorts
use Rattle.lazy_rec.specs.Named.{NamedPlace, named, same_sort}
use Rattle.lazy_rec.specs.Meaning.{means}
use Rattle.lazy_rec.proofs.HistoryLaws.{all_true}
use Rattle.heap_store.specs.Span.{Span}
use Rattle.heap_store.specs.View.{View, Quiet}
use Rattle.heap_store.specs.Jobs.{IsBuildable, IsBuilt}
use Rattle.heap_store.proofs.Steps.{Quiet_trans}
use Rattle.heap_store.specs.World.{World, recs, holds}
use Rattle.heap_store.specs.Completion.{Made, elements, made_tree, top_of_record, top_at}
use Rattle.heap_store.specs.Lawful.{IsLawful, level_of, is_of_level, level_from, level, height, has_low_names, is_finger}
use Rattle.heap_store.proofs.NameLaws.{IsNamedWell}
use Rattle.heap_store.proofs.GrowthLaws.{at_true}
use Rattle.heap_store.proofs.LawfulLaws.{lawful_names}
use Rattle.heap_store.proofs.MadeLaws.{top_at_up}
use Rattle.heap_store.proofs.MeaningLaws.{means_is}
use Rattle.finger_level.specs.declared.few.Weight.{Weight}
use Rattle.finger_level.specs.declared.level.Level.{Level}
use Rattle.finger_level.specs.declared.level.Family.TheVariants.{Later}
use Rattle.finger_level.specs.declared.level.Side.{Side}
use Rattle.finger_level.specs.declared.level.Side.TheVariants as sides
use Rattle.finger_level.specs.Level.{made_of, drawn_kept}
use Rattle.finger_level.specs.Keyed.{HasKeys, key_in}
use Rattle.finger_level.specs.Reads.{is_digit_rec, is_tree_rec, cached_size}
use Rattle.finger_level.specs.Pushes.{beside}
use Rattle.finger_level.specs.Puts.{IsTree, tail_record}
use Rattle.finger_level.specs.Pops.{from_middle, drawn_places, AreParts, IsUpper, IsDrawn}
use Rattle.finger_level.proofs.Families.{tree_size}
use Rattle.finger_level.proofs.Found.{IsValueAt}
use Rattle.finger_level.proofs.Keying.{keyed_of, value_keyed}
use Rattle.finger_level.proofs.PopNeeds.{level_shown, drawn_up}
use Rattle.finger_level.proofs.Pushing.{both_length}
use Rattle.finger_level.proofs.Tails.{tail_level, tail_means, tail_size, tail_tree}
use Rattle.finger_tree.specs.declared.tail.Tail.{Tail}
use Rattle.finger_level.specs.NearDraws.{DrawnAsk, DrawnPut}
use Rattle.finger_tree.specs.Work.{kept_by, shown_by, hanging, LevelTold}
use Rattle.finger_tree.proofs.Works.{Shape, Waited, Makes, build_facts, work_ask, level_keys, work_built, waited_there, value_there, value_up_at, shown_at}

-- ---- a suspended tail in the world

pub shape : (t : Tail) → Shape (hanging t) (t.middle.0 ∷ []) t.origin t.off t.weight.key.0
shape t = by t.side
  where
    by : (side : Side) → Shape (tail_record side t.middle t.digit t.origin t.off t.weight) (t.middle.0 ∷ []) t.origin t.off t.weight.key.0
    by sides.Left = record { waits = refl; tree = refl; family = λ q. refl; needs = λ w. refl; told_up = λ a b n g m h. top_at_up a b n g t.middle.0 m h; not_fixed = refl; most = refl; one_step = refl; key_is = refl; cells = λ f. refl; made = λ w s q. refl; cursor = λ a b c h. h }
    by sides.Right = record { waits = refl; tree = refl; family = λ q. refl; needs = λ w. refl; told_up = λ a b n g m h. top_at_up a b n g t.middle.0 m h; not_fixed = refl; most = refl; one_step = refl; key_is = refl; cells = λ f. refl; made = λ w s q. refl; cursor = λ a b c h. h }

kept : (t : Tail) (m : Made) → kept_by (hanging t) m ≡ drawn_kept m
kept t m = by t.side
  where
    by : (side : Side) → kept_by (tail_record side t.middle t.digit t.origin t.off t.weight) m ≡ drawn_kept m
    by sides.Left = refl
    by sides.Right = refl

tail_named : (P : NamedPlace → Type 0) (side : Side) (m d o : Ref) (off : ℕ) (w : Weight) → AllByRecursion P (named (tail_record side m d o off w)) → P (m.0, sorts.Finger) × P (d.0, sorts.Digit)
tail_named P sides.Left m d o off w k = (k.0, k.1.0)
tail_named P sides.Right m d o off w k = (k.0, k.1.0)

pub record TailFacts (w : World) (s : ℕ) (t : Tail) (d : ℕ) : Type 0 where
  pub middle : IsTree w (suc d) s t.middle.0
  pub digit_low : t.digit.0 < s
  pub digit_sort : holds (recs w) t.digit.0 is_digit_rec ≡ true
  pub digit_level : is_of_level (recs w) t.digit.0 d ≡ true
  pub low : height (recs w) t.middle.0 < t.origin.0
  pub low_digit : height (recs w) t.digit.0 < t.origin.0
  pub counts : t.weight.size ≡ length (means (recs w) s)
  pub small : t.weight.size ≤ 2147483647
  pub items : means (recs w) s ≡ beside t.side (means (recs w) t.middle.0) (means (recs w) t.digit.0)

pub tail_facts : {w : World} → IsLawful w → (s : ℕ) (t : Tail) → recs w s ≡ Some (hanging t) → TailFacts w s t (level_from (level (recs w)) (hanging t))
tail_facts {w} law s t e =
    let l = law.each s _ e in
    let d = level_from (level (recs w)) (hanging t) in
    let size = tree_size law s _ e (tail_tree t.side t.middle t.digit t.origin t.off t.weight) in
    let same : cached_size (hanging t) ≡ t.weight.size = ap (elim [ None ↦ 0 | Some m ↦ m ]) (tail_size t.side t.middle t.digit t.origin t.off t.weight) in
    let n = tail_named (IsNamedWell (recs w) s) t.side t.middle t.digit t.origin t.off t.weight (lawful_names law s _ e) in
    let lv = sym (tail_level (is_of_level (recs w)) d t.side t.middle t.digit t.origin t.off t.weight) ∙ own_of_level t.side l.finger in
    let lv2 = and_parts (is_of_level (recs w) t.middle.0 (suc d)) (is_of_level (recs w) t.digit.0 d) lv in
    let hs = tail_named (λ q. ltb (height (recs w) q.0) t.origin.0 ≡ true) t.side t.middle t.digit t.origin t.off t.weight (all_true _ _ (heights t.side l.heights)) in
    record {
      middle = record { under = n.0.0; sort = rw n.0.2 (ap (λ k. same_sort k sorts.Finger) n.0.3); of_level = lv2.0 };
      digit_low = n.1.0;
      digit_sort = rw n.1.2 (ap (λ k. same_sort k sorts.Digit) n.1.3);
      digit_level = lv2.1;
      low = ltb-true _ _ hs.0;
      low_digit = ltb-true _ _ hs.1;
      counts = sym same ∙ size.counts;
      small = omega (arith, same, size.small);
      items = means_is (recs w) (lawful_names law) s _ e ∙ tail_means (recs w) (means (recs w)) s t.side t.middle t.digit t.origin t.off t.weight;
    }
  where
    own_of_level : (side : Side) → is_finger (recs w) s (tail_record side t.middle t.digit t.origin t.off t.weight) ≡ true → level_of (is_of_level (recs w)) (tail_record side t.middle t.digit t.origin t.off t.weight) (level_from (level (recs w)) (tail_record side t.middle t.digit t.origin t.off t.weight)) ≡ true
    own_of_level sides.Left h = (and_parts _ _ h).0
    own_of_level sides.Right h = (and_parts _ _ h).0

    heights : (side : Side) → has_low_names (recs w) s (tail_record side t.middle t.digit t.origin t.off t.weight) ≡ true → list_all (λ (q : NamedPlace). ltb (height (recs w) q.0) t.origin.0) (named (tail_record side t.middle t.digit t.origin t.off t.weight)) ≡ true
    heights sides.Left h = h
    heights sides.Right h = h

-- the level that it is told by
shown_tail : (w : World) (t : Tail) (m : Made) → top_at w t.middle.0 ≡ Some m → shown_by w (hanging t) ≡ Some m
shown_tail w t m h = by t.side
  where
    by : (side : Side) → shown_by w (tail_record side t.middle t.digit t.origin t.off t.weight) ≡ Some m
    by sides.Left = h
    by sides.Right = h

pub waited : {w : World} → IsLawful w → (s : ℕ) (t : Tail) → recs w s ≡ Some (hanging t) → Waited w t.middle.0 t.origin
waited law s t e = let f = tail_facts law s t e in record { sort = f.middle.sort; low = f.low }

-- ---- the level that it makes

-- the value of its middle
pub upper : {w : World} → IsLawful w → (s q : ℕ) (t : Tail) → recs w s ≡ Some (hanging t) → IsValueAt w t.middle.0 q → IsUpper w q
upper {w} law s q t e k = record { depth = level_from (level (recs w)) (hanging t); value = k.there; of_level = k.of_level _ (tail_facts law s t e).middle.of_level }

tail_makes : {w : World} (t : Tail) (q : ℕ) (r : Rec) (made : Made) → IsValueAt w t.middle.0 q → recs w q ≡ Some r → from_middle t.side w r (elements w t.digit.0) ≡ Some made → made_tree w (hanging t) ≡ Some made
tail_makes {w} t q r made k here m = by t.side m
  where
    by : (side : Side) → from_middle side w r (elements w t.digit.0) ≡ Some made → made_tree w (tail_record side t.middle t.digit t.origin t.off t.weight) ≡ Some made
    by sides.Left h = rw (k.value, here) h
    by sides.Right h = rw (k.value, here) h

-- what its readiness tells: the places of the level that is drawn from its middle's value
pub tail_told : {w : World} → IsLawful w → (s q : ℕ) (t : Tail) (nodes : ℕ) → recs w s ≡ Some (hanging t) → IsValueAt w t.middle.0 q → ((shown : Made) → option_and_then (top_of_record w) (recs w q) ≡ Some shown → nodes ≡ drawn_places t.side (elements w t.digit.0) shown) → LevelTold w s nodes
tail_told {w} law s q t nodes e k count =
    let v = value_there t.middle.0 q k in
    let here = level_shown law q v.0 v.1 v.2 in
    let up = drawn_up law t.side q v.0 v.1 here.0 (rw v.1 at here.1) (elements w t.digit.0) in
    record {
      rec = hanging t;
      here = e;
      shown = here.0;
      made = up.made;
      top = shown_tail w t here.0 (shown_at t.middle.0 q here.0 k here.1);
      makes = tail_makes t q v.0 up.made k v.1 up.makes;
      count = rw (kept t here.0) (count here.0 here.1 ∙ up.places);
    }

record TailKeys (w : World) (keyed : Bool) (s : ℕ) (t : Tail) : Type 0 where
  key_is : t.weight.key.0 ≡ key_in keyed (means (recs w) s)
  middle : HasKeys keyed w t.middle.0
  digit : HasKeys keyed w t.digit.0

tail_keys : {w : World} → IsLawful w → (keyed : Bool) (s : ℕ) (t : Tail) → recs w s ≡ Some (hanging t) → HasKeys keyed w s → TailKeys w keyed s t
tail_keys {w} law keyed s t e h = by t.side e
  where
    by : (side : Side) → recs w s ≡ Some (tail_record side t.middle t.digit t.origin t.off t.weight) → TailKeys w keyed s t
    by sides.Left e = let k = keyed_of law keyed s _ e h in record { key_is = eqb-true t.weight.key.0 _ k.key; middle = k.all.0; digit = k.all.1.0 }
    by sides.Right e = let k = keyed_of law keyed s _ e h in record { key_is = eqb-true t.weight.key.0 _ k.key; middle = k.all.0; digit = k.all.1.0 }

pub tail_works : {w : World} → IsLawful w → (s q : ℕ) (t : Tail) (made_level : Level) → recs w s ≡ Some (hanging t) → IsValueAt w t.middle.0 q → IsDrawn w t.side q t.digit.0 made_level → Makes w s (hanging t) q t.origin t.weight made_level
tail_works {w} law s q t made_level e k m =
    let f = tail_facts law s t e in
    let d = level_from (level (recs w)) (hanging t) in
    let middle = at_true is_tree_rec (recs w t.middle.0) f.middle.sort in
    let value : beside t.side (means (recs w) q) (means (recs w) t.digit.0) ≡ means (recs w) s = rw k.items (sym f.items) in
    let both = both_length t.side (means (recs w) q) (means (recs w) t.digit.0) in
    let count = ap length value in
    let ask : (limit : ℕ) → s < limit → q < limit → AreParts w d limit q t.digit.0 = λ limit sl ql. record { upper = k.of_level (suc d) f.middle.of_level; upper_low = ql; digit = f.digit_level; digit_low = omega (arith, f.digit_low, sl); small = omega (arith, both, count, f.counts, f.small) } in
    let here = ask (s + q + 1) (omega arith) (omega arith) in
    record {
      here = e;
      shown = m.shown;
      top = shown_tail w t m.shown (rw (k.value, m.here) m.top);
      made = tail_makes t q m.rec (made_of made_level) k m.here m.made;
      places = rw (kept t m.shown) m.places;
      most = omega (arith, m.most);
      there = m.there;
      under = λ limit sl ql. m.under limit ql (omega (arith, f.digit_low, sl));
      parts = λ limit sl ql. m.parts d limit (ask limit sl ql);
      low = m.low d (s + q + 1) here t.origin.0 (omega (arith, k.low, f.low)) f.low_digit;
      items = m.items d (s + q + 1) here ∙ value;
      counts = f.counts;
      keyed = λ j h. (let x = tail_keys law j s t e h in m.keyed j (value_keyed law j t.middle.0 q middle.0 middle.1 middle.2 k.found x.middle) x.digit);
      key = λ j h. (tail_keys law j s t e h).key_is;
    }

-- ---- what is put

-- whatever is read before, the level that it makes can be put
pub tail_ask : {a v : View} {run : Span} (s : Ref) (q : ℕ) (t : Tail) → Quiet a v → IsLawful v.seen → recs a.seen s.0 ≡ Some (hanging t) → IsBuildable LevelTold a s run → IsValueAt v.seen t.middle.0 q → DrawnAsk v run t.side q t.digit.0 (Later s t.origin t.off) t.weight
tail_ask {a} {v} {run} s q t quiet law e b value = λ c r law2 level m. (
    let up = Quiet_trans quiet r in
    let here = quiet.grows.records _ _ e in
    let k = value_up_at law r.grows t.middle.0 q (waited_there (waited law s.0 t here)) value in
    let facts = build_facts up law2 b (shape t) e (λ w l n. (waited l s.0 t n, tt)) in
    work_ask (shape t) s q t.weight level (tail_works law2 s.0 q t level (up.grows.records _ _ e) k m) facts (facts.value_low.0 q k))

pub tail_built : {a v n : View} {run z : Span} {place : ℕ} (s : Ref) (q : ℕ) (t : Tail) → Quiet a v → IsLawful v.seen → IsLawful n.seen → recs a.seen s.0 ≡ Some (hanging t) → IsBuildable LevelTold a s run → IsValueAt v.seen t.middle.0 q → DrawnPut v n run z t.side q t.digit.0 (Later s t.origin t.off) (ltb 0 t.weight.key.0) t.weight place → IsBuilt a n s.0 run z place 1
tail_built {a} {v} {n} {run} {z} {place} s q t quiet law law2 e b value p =
    let up = Quiet_trans quiet p.quiet in
    let here = quiet.grows.records _ _ e in
    let k = value_up_at law p.quiet.grows t.middle.0 q (waited_there (waited law s.0 t here)) value in
    let facts = build_facts up p.law b (shape t) e (λ w l m. (waited l s.0 t m, tt)) in
    let works = tail_works p.law s.0 q t p.level (up.grows.records _ _ e) k p.drawn in
    work_built (shape t) p.law law2 s q p.level place works p.put (level_keys n.seen place works p.keys) up facts (facts.value_low.0 q k)
