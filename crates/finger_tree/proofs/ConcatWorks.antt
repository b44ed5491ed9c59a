-- Suspended concatenations: what their records say, and the level that they make.
use Rattle.std.proofs.Common.{◌≡◌, ℕ, ◌+◌, ◌<◌, ◌≤◌, max, ltb, refl, sym, ap, ◌∙◌, arith, true, Option, Some, None, [], ◌∷◌, ◌++◌, length}
use Rattle.std.specs.Prelude.{option_and_then, option_map}
use Rattle.std.specs.List.{AllByRecursion}
use Rattle.std.proofs.lemmas.Bool.{and_parts, eqb-true, ltb-true}
use Rattle.lazy_rec.specs.declared.records.Sort.TheVariants as sorts
use Rattle.lazy_rec.specs.Named.{NamedPlace, named, same_sort}
use Rattle.lazy_rec.specs.Meaning.{means}
use Rattle.lazy_rec.proofs.HistoryLaws.{all_true}
use Rattle.heap_store.specs.World.{World, recs, holds}
use Rattle.heap_store.specs.Growth.{Grows}
use Rattle.heap_store.specs.Completion as top
use Rattle.heap_store.specs.Completion.{Made, elements, made_tree, top_at, top_of_record, joined_trees}
use Rattle.heap_store.specs.Lawful.{IsLawful, is_of_level, level_from, level, height}
use Rattle.heap_store.proofs.NameLaws.{NamesWell}
use Rattle.heap_store.proofs.GrowthLaws.{at_true, sorts_agree}
use Rattle.heap_store.proofs.LawfulLaws.{lawful_names}
use Rattle.heap_store.proofs.MadeLaws.{top_at_up}
use Rattle.heap_store.proofs.MeaningLaws.{means_is}
use Rattle.finger_level.specs.declared.level.Level.{Level}
use Rattle.finger_level.specs.Level.{made_of, kept_of, elements_in, trees_in, items_of_made}
use Rattle.finger_level.specs.Reads.{is_digit_rec, is_tree_rec}
use Rattle.finger_level.specs.Puts.{IsTree, IsLevel}
use Rattle.finger_level.specs.Pops.{AreLow}
use Rattle.finger_level.specs.Concat.{joined_kept, IsConcat}
use Rattle.finger_level.proofs.Draws.{lower}
use Rattle.finger_level.proofs.Families.{tree_size}
use Rattle.finger_level.proofs.Found.{IsValueAt}
use Rattle.finger_level.proofs.Keying.{keyed_of, value_keyed}
use Rattle.finger_level.proofs.Tops.{top_well, digit_top}
use Rattle.finger_level.proofs.Joins.{joins, top_shown}
use Rattle.finger_tree.specs.declared.concat.Join.{Join}
use Rattle.finger_tree.specs.Work.{shown_by, main_of, joining}
use Rattle.finger_tree.proofs.Works.{Shape, Waited, Makes, shown_at, value_there}

-- ---- a suspended concatenation in the world

told_up : (a b : World) → NamesWell (recs a) → Grows a b → (l r : ℕ) (t : Made) → option_and_then (λ s. option_map (main_of s) (top_at a r)) (top_at a l) ≡ Some t → option_and_then (λ s. option_map (main_of s) (top_at b r)) (top_at b l) ≡ Some t
told_up a b n g l r t h = by (top_at a l) (top_at a r) (λ m e. top_at_up a b n g l m e) (λ m e. top_at_up a b n g r m e) h
  where
    by : (x y : Option Made) → ((m : Made) → x ≡ Some m → top_at b l ≡ Some m) → ((m : Made) → y ≡ Some m → top_at b r ≡ Some m) → option_and_then (λ s. option_map (main_of s) y) x ≡ Some t → option_and_then (λ s. option_map (main_of s) (top_at b r)) (top_at b l) ≡ Some t
    by (Some s) (Some m) f g h = rw (f s refl, g m refl) h
    by None y f g h = cc
    by (Some s) None f g h = cc

pub shape : (j : Join) → Shape (joining j) (j.left.0 ∷ j.right.0 ∷ []) j.origin j.off j.weight.key.0
shape j = record { waits = refl; tree = refl; family = λ q. refl; needs = λ w. refl; told_up = λ a b n g t h. told_up a b n g j.left.0 j.right.0 t h; not_fixed = refl; most = refl; one_step = refl; key_is = refl; cells = λ f. refl; made = λ w s q. refl; cursor = λ a b c h. h }

pub record JoinFacts (w : World) (s : ℕ) (j : Join) (d : ℕ) : Type 0 where
  pub left : IsTree w d s j.left.0
  pub right : IsTree w d s j.right.0
  pub list_low : j.list.0 < s
  pub list_sort : holds (recs w) j.list.0 is_digit_rec ≡ true
  pub list_level : is_of_level (recs w) j.list.0 d ≡ true
  pub low_left : height (recs w) j.left.0 < j.origin.0
  pub low_right : height (recs w) j.right.0 < j.origin.0
  pub low_list : height (recs w) j.list.0 < j.origin.0
  pub counts : j.weight.size ≡ length (means (recs w) s)
  pub small : j.weight.size ≤ 2147483647
  pub items : means (recs w) s ≡ means (recs w) j.left.0 ++ means (recs w) j.list.0 ++ means (recs w) j.right.0

pub join_facts : {w : World} → IsLawful w → (s : ℕ) (j : Join) → recs w s ≡ Some (joining j) → JoinFacts w s j (level_from (level (recs w)) (joining j))
join_facts {w} law s j e =
    let l = law.each s _ e in
    let d = level_from (level (recs w)) (joining j) in
    let size = tree_size law s _ e refl in
    let n = lawful_names law s _ e in
    let lv = (and_parts _ _ l.finger).0 in
    let lv1 = and_parts _ (is_of_level (recs w) j.list.0 d) lv in
    let lv2 = and_parts (is_of_level (recs w) j.left.0 d) (is_of_level (recs w) j.right.0 d) lv1.0 in
    let hs = all_true (λ (q : NamedPlace). ltb (height (recs w) q.0) j.origin.0) (named (joining j)) l.heights in
    record {
      left = record { under = n.0.0; sort = rw n.0.2 (ap (λ k. same_sort k sorts.Finger) n.0.3); of_level = lv2.0 };
      right = record { under = n.1.0.0; sort = rw n.1.0.2 (ap (λ k. same_sort k sorts.Finger) n.1.0.3); of_level = lv2.1 };
      list_low = n.1.1.0.0;
      list_sort = rw n.1.1.0.2 (ap (λ k. same_sort k sorts.Digit) n.1.1.0.3);
      list_level = lv1.1;
      low_left = ltb-true _ _ hs.0;
      low_right = ltb-true _ _ hs.1.0;
      low_list = ltb-true _ _ hs.1.1.0;
      counts = size.counts;
      small = size.small;
      items = means_is (recs w) (lawful_names law) s _ e;
    }

pub waited : {w : World} → IsLawful w → (s : ℕ) (j : Join) → recs w s ≡ Some (joining j) → AllByRecursion (λ p. Waited w p j.origin) (j.left.0 ∷ j.right.0 ∷ [])
waited law s j e = let f = join_facts law s j e in (record { sort = f.left.sort; low = f.low_left }, (record { sort = f.right.sort; low = f.low_right }, tt))

-- ---- the level that it makes

-- what it makes, and the level that it is told by
join_makes : (w : World) (j : Join) (s t : Made) → top_at w j.left.0 ≡ Some s → top_at w j.right.0 ≡ Some t → (made_tree w (joining j) ≡ Some (joined_trees s (elements w j.list.0) t)) × (shown_by w (joining j) ≡ Some (main_of s t))
join_makes w j s t a b = (rw (a, b) refl, rw (a, b) refl)

kept : (s t : Made) → joined_kept s t ≡ kept_of (main_of s t)
kept top.empty t = refl
kept (top.one e) t = refl
kept (top.deep l m r) t = refl

record LevelWell (w : World) (s : ℕ) (j : Join) (limit : ℕ) (made : Made) : Type 0 where
  parts : IsLevel w (level_from (level (recs w)) (joining j)) limit made
  low : AreLow w j.origin.0 made
  items : items_of_made (means (recs w)) made ≡ means (recs w) s

level_well : {w : World} → IsLawful w → (s p q limit : ℕ) (j : Join) (left right : Made) → recs w s ≡ Some (joining j) → IsValueAt w j.left.0 p → IsValueAt w j.right.0 q → option_and_then (top_of_record w) (recs w p) ≡ Some left → option_and_then (top_of_record w) (recs w q) ≡ Some right → s < limit → p < limit → q < limit → LevelWell w s j limit (joined_trees left (elements w j.list.0) right)
level_well {w} law s p q limit j left right e kp kq shows_p shows_q s_low p_low q_low =
    let f = join_facts law s j e in
    let d = level_from (level (recs w)) (joining j) in
    let tp = value_there j.left.0 p kp in
    let tq = value_there j.right.0 q kq in
    let top_p : top_of_record w tp.0 ≡ Some left = rw tp.1 at shows_p in
    let top_q : top_of_record w tq.0 ≡ Some right = rw tq.1 at shows_q in
    let xp = top_well law d limit p tp.0 left tp.1 top_p p_low (kp.of_level d f.left.of_level) in
    let xq = top_well law d limit q tq.0 right tq.1 top_q q_low (kq.of_level d f.right.of_level) in
    let list = at_true is_digit_rec (recs w j.list.0) f.list_sort in
    let xd = digit_top law d limit j.list.0 list.0 list.1 (sorts_agree _ sorts.Digit list.2) (omega (arith, f.list_low, s_low)) f.list_level in
    let a = joins left (elements w j.list.0) right (top_shown w tp.0 left top_p) (top_shown w tq.0 right top_q) in
    let below_p : height (recs w) p < j.origin.0 = omega (arith, kp.low, f.low_left) in
    let below_q : height (recs w) q < j.origin.0 = omega (arith, kq.low, f.low_right) in
    let items : items_of_made (means (recs w)) (joined_trees left (elements w j.list.0) right) ≡ means (recs w) s = a.items (means (recs w)) ∙ (rw (xp.items, kp.items, ← xd.items, xq.items, kq.items) (sym f.items)) in
    record {
      parts = record {
        elements = a.elements _ xp.elements xd.each xq.elements;
        trees = a.trees _ xp.trees xq.trees;
        nodes = rw a.bare.0 tt;
        inner = rw a.bare.1 tt;
        small = (let z = ap length items in omega (arith, z, f.counts, f.small));
      };
      low = record {
        elements = a.elements _ (lower w _ j.origin.0 (elements_in left) below_p xp.low) (lower w _ j.origin.0 (elements w j.list.0) f.low_list xd.low) (lower w _ j.origin.0 (elements_in right) below_q xq.low);
        trees = a.trees _ (lower w _ j.origin.0 (trees_in left) below_p xp.low_trees) (lower w _ j.origin.0 (trees_in right) below_q xq.low_trees);
        nodes = rw a.bare.0 tt;
        inner = rw a.bare.1 tt;
      };
      items = items;
    }

pub join_works : {w : World} → IsLawful w → (s p q : ℕ) (j : Join) (made_level : Level) → recs w s ≡ Some (joining j) → IsValueAt w j.left.0 p → IsValueAt w j.right.0 q → IsConcat w p j.list.0 q made_level → Makes w s (joining j) (max p q) j.origin j.weight made_level
join_works {w} law s p q j made_level e kp kq m =
    let f = join_facts law s j e in
    let tl = at_true is_tree_rec (recs w j.left.0) f.left.sort in
    let tr = at_true is_tree_rec (recs w j.right.0) f.right.sort in
    let makes = join_makes w j _ _ (shown_at j.left.0 p _ kp m.left_read.made) (shown_at j.right.0 q _ kq m.right_read.made) in
    let well : (limit : ℕ) → s < limit → max p q < limit → LevelWell w s j limit (made_of made_level) = λ limit sl ml. rw m.made (level_well law s p q limit j (made_of m.left) (made_of m.right) e kp kq m.left_read.made m.right_read.made sl (omega (arith, ml)) (omega (arith, ml))) in
    let here = well (s + p + q + 1) (omega arith) (omega arith) in
    record {
      here = e;
      shown = main_of (made_of m.left) (made_of m.right);
      top = makes.1;
      made = makes.0 ∙ ap Some (sym m.made);
      places = rw (← kept (made_of m.left) (made_of m.right)) m.places;
      most = omega (arith, m.most);
      there = m.there;
      under = λ limit sl ml. m.under limit (omega (arith, ml)) (omega (arith, ml));
      parts = λ limit sl ml. (well limit sl ml).parts;
      low = here.low;
      items = here.items;
      counts = f.counts;
      keyed = λ k h. (let x = (keyed_of law k s _ e h).all in m.keyed k (value_keyed law k j.left.0 p tl.0 tl.1 tl.2 kp.found x.0) x.1.1.0 (value_keyed law k j.right.0 q tr.0 tr.1 tr.2 kq.found x.1.0));
      key = λ k h. eqb-true j.weight.key.0 _ (keyed_of law k s _ e h).key;
    }
