-- Suspended pushes: what their records say, and the level that they make.
use Rattle.std.proofs.Common.{◌≡◌, Bool, ℕ, ◌+◌, ◌<◌, ◌≤◌, ltb, refl, sym, ap, ◌∙◌, arith, true, Some, None, List, [], ◌∷◌, length}
use Rattle.std.specs.Prelude.{flat_map, option_and_then}
use Rattle.std.specs.List.{AllByRecursion, list_all}
use Rattle.std.proofs.lemmas.Bool.{and_parts, ltb-true}
use Rattle.lazy_rec.specs.declared.places.Ref.{Ref}
use Rattle.lazy_rec.specs.declared.records.Sort.TheVariants as sorts
use Rattle.lazy_rec.specs.Named.{NamedPlace, named, same_sort}
use Rattle.lazy_rec.specs.Meaning.{means}
use Rattle.lazy_rec.proofs.HistoryLaws.{all_true}
use Rattle.heap_store.specs.World.{World, recs}
use Rattle.heap_store.specs.Completion.{Made, top_of_record, top_at, made_tree}
use Rattle.heap_store.specs.Lawful.{IsLawful, level_of, is_of_level, level_from, level, height, has_low_names, is_finger}
use Rattle.heap_store.proofs.NameLaws.{IsNamedWell}
use Rattle.heap_store.proofs.GrowthLaws.{at_true, grows_refl}
use Rattle.heap_store.proofs.LawfulLaws.{lawful_names}
use Rattle.heap_store.proofs.MadeLaws.{top_at_up}
use Rattle.heap_store.proofs.MeaningLaws.{means_is}
use Rattle.finger_level.specs.declared.few.Weight.{Weight}
use Rattle.finger_level.specs.declared.level.Level.{Level}
use Rattle.finger_level.specs.declared.level.Side.{Side}
use Rattle.finger_level.specs.declared.level.Side.TheVariants as sides
use Rattle.finger_level.specs.declared.level.Pushed.{Pushed}
use Rattle.finger_level.specs.declared.level.Pushed.TheVariants as pushes
use Rattle.finger_level.specs.Keyed.{HasKeys, AreKeyed, key_in}
use Rattle.finger_level.specs.Level.{elements_in, trees_in, items_of_made, made_of, made_places, kept_of}
use Rattle.finger_level.specs.Reads.{is_tree_rec, cached_size}
use Rattle.finger_level.specs.Puts.{IsElement, IsTree, IsLevel, push_record}
use Rattle.finger_level.specs.Pushes.{IsPushed, pushed_list, push_all, beside}
use Rattle.finger_level.specs.Pops.{AreLow}
use Rattle.finger_level.proofs.Builds.{elements_up}
use Rattle.finger_level.proofs.Draws.{lower}
use Rattle.finger_level.proofs.Families.{tree_size}
use Rattle.finger_level.proofs.Found.{IsValueAt}
use Rattle.finger_level.proofs.Keying.{push_keys_of, value_keyed}
use Rattle.finger_level.proofs.LevelPushes.{open_left, open_right}
use Rattle.finger_level.proofs.Levels.{under_level}
use Rattle.finger_level.proofs.PopNeeds.{level_shown}
use Rattle.finger_level.proofs.Suspending.{PushLow, push_size}
use Rattle.finger_level.proofs.Pushing.{push_level, push_means, push_tree}
use Rattle.finger_level.proofs.Tops.{top_well, rest_open, push_all_well}
use Rattle.finger_tree.specs.declared.push.Push.{Push}
use Rattle.finger_tree.specs.Work.{kept_by, shown_by, suspended, LevelTold}
use Rattle.finger_tree.proofs.Works.{Shape, Waited, Makes, KeysMade, shown_at, value_there}

-- ---- a suspended push in the world

pub shape : (p : Push) → Shape (suspended p) (p.tree.0 ∷ []) p.origin p.off p.weight.key.0
shape p = by p.side p.es
  where
    by : (side : Side) (es : Pushed) → Shape (push_record side p.tree es p.origin p.off p.weight) (p.tree.0 ∷ []) p.origin p.off p.weight.key.0
    by sides.Left (pushes.One e) = record { waits = refl; tree = refl; family = λ q. refl; needs = λ w. refl; told_up = λ a b n g m h. top_at_up a b n g p.tree.0 m h; not_fixed = refl; most = refl; one_step = refl; key_is = refl; cells = λ f. refl; made = λ w s q. refl; cursor = λ a b c h. h }
    by sides.Left (pushes.Two e f) = record { waits = refl; tree = refl; family = λ q. refl; needs = λ w. refl; told_up = λ a b n g m h. top_at_up a b n g p.tree.0 m h; not_fixed = refl; most = refl; one_step = refl; key_is = refl; cells = λ f. refl; made = λ w s q. refl; cursor = λ a b c h. h }
    by sides.Right (pushes.One e) = record { waits = refl; tree = refl; family = λ q. refl; needs = λ w. refl; told_up = λ a b n g m h. top_at_up a b n g p.tree.0 m h; not_fixed = refl; most = refl; one_step = refl; key_is = refl; cells = λ f. refl; made = λ w s q. refl; cursor = λ a b c h. h }
    by sides.Right (pushes.Two e f) = record { waits = refl; tree = refl; family = λ q. refl; needs = λ w. refl; told_up = λ a b n g m h. top_at_up a b n g p.tree.0 m h; not_fixed = refl; most = refl; one_step = refl; key_is = refl; cells = λ f. refl; made = λ w s q. refl; cursor = λ a b c h. h }

kept : (p : Push) (m : Made) → kept_by (suspended p) m ≡ kept_of m
kept p m = by p.side p.es
  where
    by : (side : Side) (es : Pushed) → kept_by (push_record side p.tree es p.origin p.off p.weight) m ≡ kept_of m
    by sides.Left (pushes.One e) = refl
    by sides.Left (pushes.Two e f) = refl
    by sides.Right (pushes.One e) = refl
    by sides.Right (pushes.Two e f) = refl

push_named : (P : NamedPlace → Type 0) (side : Side) (t : Ref) (es : Pushed) (o : Ref) (off : ℕ) (w : Weight) → AllByRecursion P (named (push_record side t es o off w)) → P (t.0, sorts.Finger) × AllByRecursion (λ e. P (e, sorts.Element)) (pushed_list es)
push_named P sides.Left t (pushes.One e) o off w k = (k.0, (k.1.0, tt))
push_named P sides.Left t (pushes.Two e f) o off w k = (k.0, (k.1.0, (k.1.1.0, tt)))
push_named P sides.Right t (pushes.One e) o off w k = (k.0, (k.1.0, tt))
push_named P sides.Right t (pushes.Two e f) o off w k = (k.0, (k.1.0, (k.1.1.0, tt)))

pub record PushFacts (w : World) (s : ℕ) (p : Push) (d : ℕ) : Type 0 where
  pub tree : IsTree w d s p.tree.0
  pub each : AllByRecursion (IsElement w d s) (pushed_list p.es)
  pub low : PushLow w p.tree (pushed_list p.es) p.origin.0
  pub counts : p.weight.size ≡ length (means (recs w) s)
  pub small : p.weight.size ≤ 2147483647
  pub items : means (recs w) s ≡ beside p.side (flat_map (means (recs w)) (pushed_list p.es)) (means (recs w) p.tree.0)

pub push_facts : {w : World} → IsLawful w → (s : ℕ) (p : Push) → recs w s ≡ Some (suspended p) → PushFacts w s p (level_from (level (recs w)) (suspended p))
push_facts {w} law s p e =
    let l = law.each s _ e in
    let d = level_from (level (recs w)) (suspended p) in
    let size = tree_size law s _ e (push_tree p.side p.tree p.es p.origin p.off p.weight) in
    let same : cached_size (suspended p) ≡ p.weight.size = ap (elim [ None ↦ 0 | Some m ↦ m ]) (push_size p.side p.tree p.es p.origin p.off p.weight) in
    let n = push_named (IsNamedWell (recs w) s) p.side p.tree p.es p.origin p.off p.weight (lawful_names law s _ e) in
    let lv = sym (push_level (is_of_level (recs w)) d p.side p.tree p.es p.origin p.off p.weight) ∙ own_of_level p.side p.es l.finger in
    let lv2 = and_parts (is_of_level (recs w) p.tree.0 d) _ lv in
    let hs = push_named (λ q. ltb (height (recs w) q.0) p.origin.0 ≡ true) p.side p.tree p.es p.origin p.off p.weight (all_true _ _ (heights p.side p.es l.heights)) in
    record {
      tree = record { under = n.0.0; sort = rw n.0.2 (ap (λ k. same_sort k sorts.Finger) n.0.3); of_level = lv2.0 };
      each = elements (pushed_list p.es) n.1 lv2.1;
      low = record { tree = ltb-true _ _ hs.0; each = lower (pushed_list p.es) hs.1 };
      counts = sym same ∙ size.counts;
      small = omega (arith, same, size.small);
      items = means_is (recs w) (lawful_names law) s _ e ∙ push_means (recs w) (means (recs w)) s p.side p.tree p.es p.origin p.off p.weight;
    }
  where
    own_of_level : (side : Side) (es : Pushed) → is_finger (recs w) s (push_record side p.tree es p.origin p.off p.weight) ≡ true → level_of (is_of_level (recs w)) (push_record side p.tree es p.origin p.off p.weight) (level_from (level (recs w)) (push_record side p.tree es p.origin p.off p.weight)) ≡ true
    own_of_level sides.Left (pushes.One e) h = (and_parts _ _ h).0
    own_of_level sides.Left (pushes.Two e f) h = (and_parts _ _ h).0
    own_of_level sides.Right (pushes.One e) h = (and_parts _ _ h).0
    own_of_level sides.Right (pushes.Two e f) h = (and_parts _ _ h).0

    heights : (side : Side) (es : Pushed) → has_low_names (recs w) s (push_record side p.tree es p.origin p.off p.weight) ≡ true → list_all (λ (q : NamedPlace). ltb (height (recs w) q.0) p.origin.0) (named (push_record side p.tree es p.origin p.off p.weight)) ≡ true
    heights sides.Left (pushes.One e) h = h
    heights sides.Left (pushes.Two e f) h = h
    heights sides.Right (pushes.One e) h = h
    heights sides.Right (pushes.Two e f) h = h

    elements : (es : List ℕ) → AllByRecursion (λ e. IsNamedWell (recs w) s (e, sorts.Element)) es → list_all (λ q. is_of_level (recs w) q (level_from (level (recs w)) (suspended p))) es ≡ true → AllByRecursion (IsElement w (level_from (level (recs w)) (suspended p)) s) es
    elements [] n k = tt
    elements (e ∷ es) n k = let a = and_parts (is_of_level (recs w) e (level_from (level (recs w)) (suspended p))) _ k in (record { under = n.0.0; sort = rw n.0.2 (ap (λ k. same_sort k sorts.Element) n.0.3); of_level = a.0 }, elements es n.1 a.1)

    lower : (es : List ℕ) → AllByRecursion (λ e. ltb (height (recs w) e) p.origin.0 ≡ true) es → AllByRecursion (λ e. height (recs w) e < p.origin.0) es
    lower [] h = tt
    lower (e ∷ es) h = (ltb-true _ _ h.0, lower es h.1)

-- what the push makes, where its tree shows a level
pub push_makes : (w : World) (p : Push) (shown : Made) → top_at w p.tree.0 ≡ Some shown → made_tree w (suspended p) ≡ Some (push_all p.side (pushed_list p.es) shown)
push_makes w p shown e = by p.side p.es
  where
    by : (side : Side) (es : Pushed) → made_tree w (push_record side p.tree es p.origin p.off p.weight) ≡ Some (push_all side (pushed_list es) shown)
    by sides.Left (pushes.One x) = rw e refl
    by sides.Left (pushes.Two x y) = rw e refl
    by sides.Right (pushes.One x) = rw e refl
    by sides.Right (pushes.Two x y) = rw e refl

-- the level that it is told by
shown_push : (w : World) (p : Push) (m : Made) → top_at w p.tree.0 ≡ Some m → shown_by w (suspended p) ≡ Some m
shown_push w p m h = by p.side p.es
  where
    by : (side : Side) (es : Pushed) → shown_by w (push_record side p.tree es p.origin p.off p.weight) ≡ Some m
    by sides.Left (pushes.One x) = h
    by sides.Left (pushes.Two x y) = h
    by sides.Right (pushes.One x) = h
    by sides.Right (pushes.Two x y) = h

pub waited : {w : World} → IsLawful w → (s : ℕ) (p : Push) → recs w s ≡ Some (suspended p) → Waited w p.tree.0 p.origin
waited law s p e = let f = push_facts law s p e in record { sort = f.tree.sort; low = f.low.tree }

-- ---- the level that it makes

record LevelWell (w : World) (s : ℕ) (p : Push) (limit : ℕ) (made : Made) : Type 0 where
  parts : IsLevel w (level_from (level (recs w)) (suspended p)) limit made
  low : AreLow w p.origin.0 made
  items : items_of_made (means (recs w)) made ≡ means (recs w) s

level_well : {w : World} → IsLawful w → (s q limit : ℕ) (p : Push) (before : Made) → recs w s ≡ Some (suspended p) → IsValueAt w p.tree.0 q → option_and_then (top_of_record w) (recs w q) ≡ Some before → (open_left before ≡ true) × (open_right before ≡ true) → s < limit → q < limit → LevelWell w s p limit (push_all p.side (pushed_list p.es) before)
level_well {w} law s q limit p before e k shows free s_low q_low =
    let f = push_facts law s p e in
    let d = level_from (level (recs w)) (suspended p) in
    let t = value_there p.tree.0 q k in
    let top : top_of_record w t.0 ≡ Some before = rw t.1 at shows in
    let x = top_well law d limit q t.0 before t.1 top q_low (k.of_level d f.tree.of_level) in
    let a = push_all_well p.side p.es before free in
    let below : height (recs w) q < p.origin.0 = omega (arith, k.low, f.low.tree) in
    let items : items_of_made (means (recs w)) (push_all p.side (pushed_list p.es) before) ≡ means (recs w) s = a.items (means (recs w)) ∙ (ap (beside p.side (flat_map (means (recs w)) (pushed_list p.es))) (x.items ∙ k.items) ∙ sym f.items) in
    record {
      parts = record {
        elements = a.elements _ (elements_up law (grows_refl w) d s limit (omega (arith, s_low)) (pushed_list p.es) f.each) x.elements;
        trees = rw a.trees x.trees;
        nodes = rw a.bare.0 tt;
        inner = rw a.bare.1 tt;
        small = (let z = ap length items in omega (arith, z, f.counts, f.small));
      };
      low = record {
        elements = a.elements _ f.low.each (lower w (height (recs w) q) p.origin.0 (elements_in before) below x.low);
        trees = rw a.trees (lower w (height (recs w) q) p.origin.0 (trees_in before) below x.low_trees);
        nodes = rw a.bare.0 tt;
        inner = rw a.bare.1 tt;
      };
      items = items;
    }

-- the keys of what it needs
pub push_keys : {w : World} → IsLawful w → (s q : ℕ) (p : Push) → recs w s ≡ Some (suspended p) → IsValueAt w p.tree.0 q → (j : Bool) → HasKeys j w s → HasKeys j w q × AreKeyed j w (pushed_list p.es)
push_keys {w} law s q p e k j h =
    let tree = at_true is_tree_rec (recs w p.tree.0) (push_facts law s p e).tree.sort in
    let x = push_keys_of law j s p.side p.tree p.es p.origin p.off p.weight e h in
    (value_keyed law j p.tree.0 q tree.0 tree.1 tree.2 k.found x.tree, x.each)

-- and of what is put
pub push_keyed : {a : World} → IsLawful a → (b : World) (s q : ℕ) (p : Push) (made_level : Level) → recs a s ≡ Some (suspended p) → IsValueAt a p.tree.0 q → Makes a s (suspended p) q p.origin p.weight made_level → (place : ℕ) → (HasKeys (ltb 0 p.weight.key.0) a q → AreKeyed (ltb 0 p.weight.key.0) a (pushed_list p.es) → p.weight.key.0 ≡ key_in (ltb 0 p.weight.key.0) (items_of_made (means (recs a)) (made_of made_level)) → HasKeys (ltb 0 p.weight.key.0) b place) → KeysMade a b p.weight s place
push_keyed law b s q p made_level e k m place keys h =
    let j = ltb 0 p.weight.key.0 in
    let x = push_keys law s q p e k j h in
    keys x.0 x.1 (m.key j h ∙ ap (key_in j) (sym m.items))

-- what its readiness tells: the places of the level that its tree's value shows, with its elements pushed onto it
pub push_told : {w : World} → IsLawful w → (s q : ℕ) (p : Push) (nodes : ℕ) → recs w s ≡ Some (suspended p) → IsValueAt w p.tree.0 q → ((shown : Made) → option_and_then (top_of_record w) (recs w q) ≡ Some shown → nodes ≡ made_places (kept_of shown) (push_all p.side (pushed_list p.es) shown)) → LevelTold w s nodes
push_told {w} law s q p nodes e k count =
    let t = value_there p.tree.0 q k in
    let here = level_shown law q t.0 t.1 t.2 in
    let shown = shown_at p.tree.0 q here.0 k here.1 in
    record {
      rec = suspended p;
      here = e;
      shown = here.0;
      made = push_all p.side (pushed_list p.es) here.0;
      top = shown_push w p here.0 shown;
      makes = push_makes w p here.0 shown;
      count = rw (kept p here.0) (count here.0 here.1);
    }

pub push_works : {w : World} → IsLawful w → (s q : ℕ) (p : Push) (made_level : Level) → recs w s ≡ Some (suspended p) → IsValueAt w p.tree.0 q → IsPushed w p.side p.es q made_level → Makes w s (suspended p) q p.origin p.weight made_level
push_works {w} law s q p made_level e k m =
    let f = push_facts law s p e in
    let shown = shown_at p.tree.0 q _ k m.read.made in
    let well : (limit : ℕ) → s < limit → q < limit → LevelWell w s p limit (made_of made_level) = λ limit sl ql. rw m.made (level_well law s q limit p (made_of m.before) e k m.read.made (rest_open m.before m.read.rests) sl ql) in
    let here = well (s + q + 1) (omega arith) (omega arith) in
    record {
      here = e;
      shown = made_of m.before;
      top = shown_push w p (made_of m.before) shown;
      made = push_makes w p _ shown ∙ ap Some (sym m.made);
      places = rw (kept p (made_of m.before)) m.places;
      most = omega (arith, m.most);
      there = m.there;
      under = λ limit sl ql. m.under limit (under_level q limit (omega (arith, ql)) m.before m.read.under);
      parts = λ limit sl ql. (well limit sl ql).parts;
      low = here.low;
      items = here.items;
      counts = f.counts;
      keyed = λ j h. (let x = push_keys law s q p e k j h in m.keyed j x.0 x.1);
      key = λ j h. (push_keys_of law j s p.side p.tree p.es p.origin p.off p.weight e h).key_is;
    }
