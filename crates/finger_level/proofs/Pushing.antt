-- The put of a suspended push.
use Rattle.std.proofs.Common.{◌≡◌, ℕ, suc, ◌+◌, ◌-◌, ◌<◌, ◌≤◌, eqb, leb, refl, sym, ap, ◌∙◌, arith, Bool, true, ◌&&◌, Option, Some, None, List, [], ◌∷◌, length}
use Rattle.std.specs.Prelude.{flat_map}
use Rattle.std.specs.List.{AllByRecursion}
use Rattle.std.proofs.lemmas.Bool.{and_parts, and_from, or_left, eq-eqb, le-leb, cond-false, ne_eqb}
use Rattle.std.proofs.lemmas.List.{append-nil, length-append}
use Rattle.lazy_rec.specs.declared.places.Ref.{Ref}
use Rattle.lazy_rec.specs.declared.places.Item.{Item}
use Rattle.lazy_rec.specs.declared.records.Rec.{Rec}
use Rattle.lazy_rec.specs.declared.records.Rec.TheVariants.{TEmpty}
use Rattle.finger_level.specs.declared.few.Group.TheVariants as group
use Rattle.lazy_rec.specs.Named.{Records}
use Rattle.lazy_rec.specs.Meaning.{means, means_of}
use Rattle.lazy_rec.specs.Units.{family_of}
use Rattle.heap_store.specs.Span.{Span}
use Rattle.heap_store.specs.World.{World, recs, holds}
use Rattle.heap_store.specs.Completion as top
use Rattle.heap_store.specs.Completion.{is_empty_tree, is_nil, is_list_nil, is_middle, is_tree, are_nodes, made_tree}
use Rattle.heap_store.specs.Growth.{Grows}
use Rattle.heap_store.specs.Lawful.{IsLawful, height, level, level_from, is_rooted}
use Rattle.heap_store.specs.Hand.{Hand, contains}
use Rattle.heap_store.specs.View.{View, IsLawfulView, Fits, purse}
use Rattle.heap_store.proofs.GrowthLaws.{at_true, sorts_agree, grows_trans, grows_refl}
use Rattle.heap_store.proofs.LawfulLaws.{lawful_names}
use Rattle.heap_store.proofs.MadeLaws.{made_tree_up}
use Rattle.heap_store.proofs.MeaningLaws.{means_kept}
use Rattle.heap_store.proofs.RecordLaws.{height_kept, own_level_kept}
use Rattle.finger_level.specs.declared.few.Weight.{Weight}
use Rattle.finger_level.specs.declared.level.Side.{Side}
use Rattle.finger_level.specs.declared.level.Side.TheVariants as sides
use Rattle.finger_level.specs.declared.level.Nodes.{Nodes}
use Rattle.finger_level.specs.declared.level.Nodes.TheVariants as nodes
use Rattle.finger_level.specs.declared.level.Pushed.{Pushed}
use Rattle.finger_level.specs.declared.level.Pushed.TheVariants as pushes
use Rattle.finger_level.specs.declared.level.Middle.{Middle}
use Rattle.finger_level.specs.declared.level.Middle.TheVariants as middles
use Rattle.finger_level.specs.declared.level.Family.{Family}
use Rattle.finger_level.specs.declared.level.Family.TheVariants.{First, Later}
use Rattle.finger_level.specs.Level.{middle_of, middle_places, all_of, nodes_list, nodes_places, tree_of, if_there, middle_elements, middle_items}
use Rattle.finger_level.specs.Puts.{units_shown, IsElement, IsTree, IsMiddle, PartAsk, AreNodesAt, PushAsk, IsLater, IsFamily, push_record, push_middle, tree_at}
use Rattle.finger_level.specs.Pushes.{pushed_list, beside}
use Rattle.finger_level.proofs.Records.{fits_finger, fits_later}
use Rattle.heap_store.proofs.HeightLaws.{height_is, height_most}
use Rattle.heap_store.proofs.FixedPlaces.{above_fixed, fixed_records}
use Rattle.heap_store.proofs.UnitLaws.{free}
use Rattle.heap_store.proofs.PutLaws.{place_fits}
use Rattle.heap_store.specs.Budget.{gain_at}
use Rattle.finger_level.proofs.Funded.{first_gain}
use Rattle.finger_level.proofs.Laying.{put_costs}
use Rattle.finger_level.proofs.Values.{level_is, origin_low, own_level_is, value_height, level_unique, element_levelled}
use Rattle.finger_level.proofs.Builds.{element_there, items_up, all_of_level}
use Rattle.heap_store.proofs.Steps.{Quiet_trans, Filled-none, Filled-put, Filled-quiet, IsInHand-next, unpassed_quiet}
use Rattle.heap_store.specs.Hand.{IsInHand}
use Rattle.heap_store.specs.View.{Quiet, Put}
use Rattle.heap_store.specs.Jobs.{Filled, IsUnpassed}
use Rattle.finger_level.specs.Puts.{Laid, NodesPut, MiddleAsk, MiddlePut, IsNext}
use Rattle.finger_level.specs.Reads.{is_tree_rec}
use Rattle.std.specs.List.{list_all}
use Rattle.heap_store.proofs.MeaningLaws.{means_is}
use Rattle.heap_store.specs.Lawful.{level_of, is_of_level}
use Rattle.finger_level.proofs.Families.{next_fits, level_few}
use Rattle.finger_level.proofs.Suspending.{PushLow, push_family, push_size, push_pending, later_free, push_own, push_well, node_is, makes_next}
use Rattle.finger_level.proofs.NodePuts.{all_left, all_right, node_grows, TreeWell, tree_well, PushedWell, pushed_well, push_elements, push_trees, push_items}

-- ---- what is found before the put

pub both_length : (side : Side) (xs ys : List ℕ) → length (beside side xs ys) ≡ length xs + length ys
both_length sides.Left xs ys = length-append xs ys
both_length sides.Right xs ys = rw (length-append ys xs) (omega arith)

pub nodes_ask : {v : View} {run : Span} (side : Side) (t : Option Ref) (ns : Nodes) (family : Family) → PushAsk v run side t ns family → PartAsk v run (nodes_places ns) (all_of (nodes_list ns))
nodes_ask {v} {run} side t ns family k = record {
  depth = k.depth;
  elements = record {
    each = rw (push_elements side t ns) at k.middle.elements;
    small = (let z = ap length (push_items (means (recs v.seen)) side t ns) in let y = both_length side (flat_map (means (recs v.seen)) (all_of (nodes_list ns))) (flat_map (means (recs v.seen)) (if_there (tree_of t))) in omega (arith, z, y, k.middle.small));
  };
  held = k.held;
  room = omega (arith, k.room);
}

pub record Found (a b : World) (d more : ℕ) (side : Side) (t : Option Ref) (ns : Nodes) (es : Pushed) : Type 0 where
  pub tree : TreeWell a b (suc d) more t
  pub nodes : PushedWell a b d more ns es
  pub items : beside side (flat_map (means (recs b)) (pushed_list es)) (means (recs b) (tree_at t).0) ≡ middle_items (means (recs a)) (push_middle side t ns)
  pub both : length (flat_map (means (recs b)) (pushed_list es)) + length (means (recs b) (tree_at t).0) ≡ length (middle_items (means (recs a)) (push_middle side t ns))

pub found_at : {a b : World} → IsLawful a → IsLawful b → Grows a b → (d limit more : ℕ) → limit ≤ more → 4 < more → (side : Side) (t : Option Ref) (ns : Nodes) (es : Pushed) → IsMiddle a d limit (push_middle side t ns) → AllByRecursion (λ e. e < more) (pushed_list es) → AreNodesAt b ns es → Found a b d more side t ns es
found_at {a} {b} law law2 g d limit more high four side t ns es k under at =
    let tr = tree_well law law2 g (suc d) limit more high four t (rw (push_trees side t ns) at k.trees) in
    let nd = pushed_well law law2 g d limit more high ns es (rw (push_elements side t ns) at k.elements) under at in
    let all : beside side (flat_map (means (recs b)) (pushed_list es)) (means (recs b) (tree_at t).0) ≡ middle_items (means (recs a)) (push_middle side t ns) = rw (nd.items, tr.items) (sym (push_items (means (recs a)) side t ns)) in
    record { tree = tr; nodes = nd; items = all; both = sym (both_length side (flat_map (means (recs b)) (pushed_list es)) (means (recs b) (tree_at t).0)) ∙ ap length all }

pub found : {v : View} {b : World} {run : Span} → IsLawful v.seen → IsLawful b → Grows v.seen b → (more : ℕ) → run.next ≤ more → 4 < more → (side : Side) (t : Option Ref) (ns : Nodes) (es : Pushed) (family : Family) (k : PushAsk v run side t ns family) → AllByRecursion (λ e. e < more) (pushed_list es) → AreNodesAt b ns es → Found v.seen b k.depth more side t ns es
found {v} {b} {run} law law2 g more high four side t ns es family k under at = found_at law law2 g k.depth run.next more high four side t ns es k.middle under at

-- ---- heights

all_below : {w : World} (es : List ℕ) (d limit : ℕ) → IsLawful w → AllByRecursion (IsElement w d limit) es → AllByRecursion (λ e. height (recs w) e < limit) es
all_below [] d limit law k = tt
all_below (e ∷ es) d limit law k = (omega (arith, height_most law e (element_there d limit e k.0), k.0.under), all_below es d limit law k.1)

pub first_low : {w : World} → IsLawful w → (d limit o : ℕ) → limit ≤ o → (t : Ref) (es : List ℕ) → IsTree w d limit t.0 → AllByRecursion (IsElement w d limit) es → PushLow w t es o
first_low {w} law d limit o high t es kt k = record {
  tree = (let z = at_true _ (recs w t.0) kt.sort in omega (arith, height_most law t.0 (z.0, z.1), kt.under, high));
  each = higher es (all_below es d limit law k);
}
  where
    higher : (es : List ℕ) → AllByRecursion (λ e. height (recs w) e < limit) es → AllByRecursion (λ e. height (recs w) e < o) es
    higher [] h = tt
    higher (e ∷ es) h = (omega (arith, h.0, high), higher es h.1)

-- a first suspension of a middle
pub push_first : {v d : View} {run : Span} → IsLawful v.seen → IsLawfulView d → Grows v.seen d.seen → (p : ℕ) → run.next ≤ p → contains d.hand.reserved p ≡ true → (side : Side) (t : Option Ref) (ns : Nodes) (es : Pushed) (family : Family) (k : PushAsk v run side t ns family) → AllByRecursion (λ e. e < p) (pushed_list es) → AreNodesAt d.seen ns es
    → (o : Ref) → o.0 ≡ p → (w : Weight) → w.size ≡ length (flat_map (means (recs d.seen)) (pushed_list es)) + length (means (recs d.seen) (tree_at t).0) → w.key.0 < 18446744073709551616 → gain_at d.seen p (push_record side (tree_at t) es o 0 w) ≤ purse d → Fits d p (push_record side (tree_at t) es o 0 w)
push_first {v} {d} {run} law0 law g p high held side t ns es family k under at o same w size key gain =
    let low = place_fits law p held in
    let f = found law0 law.world g p high (above_fixed law p held) side t ns es family k under at in
    let fam = push_family p side (tree_at t) es o 0 w in
    let own : family_of p (push_record side (tree_at t) es o 0 w) ≡ (p, 0) = fam ∙ ap (λ (n : ℕ). (n, 0)) same in
    fits_finger law p held (push_record side (tree_at t) es o 0 w) (suc k.depth)
    (push_well law.world (suc k.depth) p p (omega arith) low (tree_at t) o 0 w f.tree.is (omega (arith, same, low)) (omega arith) (omega (arith, size, f.both, k.middle.small)) key side es f.nodes.each (size ∙ sym (both_length side (flat_map (means (recs d.seen)) (pushed_list es)) (means (recs d.seen) (tree_at t).0)))
    (first_low law.world (suc k.depth) p o.0 (omega (arith, same)) (tree_at t) (pushed_list es) f.tree.is f.nodes.each) (rw fam refl))
    own gain

-- ---- the next suspension of a claimed one

-- facts of an earlier world, in a later one
pub later_up : {a b : World} → IsLawful a → IsLawful b → Grows a b → (s d : ℕ) (r : Rec) → recs a s ≡ Some r → level_from (level (recs a)) r ≡ d → level_from (level (recs b)) r ≡ d
later_up {a} {b} law law2 g s d r e own = sym (own_level_is law2 s r (g.records s r e)) ∙ (sym (own_level_kept (recs a) (recs b) (lawful_names law) g.records s (r, e)) ∙ (own_level_is law s r e ∙ own))

pub shift : (w : World) (o : ℕ) (es : List ℕ) → AllByRecursion (λ e. height (recs w) e < o) es → AllByRecursion (λ e. height (recs w) e ≤ o - 1) es
shift w o [] h = tt
shift w o (e ∷ es) h = (omega (arith, h.0), shift w o es h.1)

shift_back : (w : World) (o : ℕ) (es : List ℕ) → 0 < o → AllByRecursion (λ e. height (recs w) e ≤ o - 1) es → AllByRecursion (λ e. height (recs w) e < o) es
shift_back w o [] pos h = tt
shift_back w o (e ∷ es) pos h = (omega (arith, h.0, pos), shift_back w o es pos h.1)

some_low : (w : World) (o : ℕ) (ns : Nodes) → AllByRecursion (λ e. height (recs w) e < o) (all_of (nodes_list ns)) → 0 < o
some_low w o (nodes.One (group.Two x y)) h = omega (arith, h.0)
some_low w o (nodes.One (group.Three x y z)) h = omega (arith, h.0)
some_low w o (nodes.Two (group.Two x y) m) h = omega (arith, h.0)
some_low w o (nodes.Two (group.Three x y z) m) h = omega (arith, h.0)

pub empty_height : {w : World} → IsLawful w → height (recs w) 4 ≤ 0
empty_height {w} law = value_height law 4 0 TEmpty (fixed_records law).empty_tree refl tt

tree_low : {a b : World} → IsLawful a → IsLawful b → Grows a b → (d limit o : ℕ) (t : Option Ref) → 0 < o → AllByRecursion (IsTree a d limit) (if_there (tree_of t)) → AllByRecursion (λ e. height (recs a) e < o) (if_there (tree_of t)) → height (recs b) (tree_at t).0 < o
tree_low {a} {b} law law2 g d limit o None pos k h = let z = empty_height law2 in omega (arith, z, pos)
tree_low {a} {b} law law2 g d limit o (Some t) pos k h =
    let z = at_true _ (recs a t.0) k.0.sort in
    rw (height_kept (recs a) (recs b) (lawful_names law) g.records t.0 (z.0, z.1)) at h.0

-- it is the middle of its level
tree_is : {w : World} → IsLawful w → (t : Option Ref) → is_tree w (tree_of t) (tree_at t).0 ≡ true
tree_is law None = (and_parts _ _ law.fixed).1
tree_is {w} law (Some t) = or_left (eqb t.0 t.0) _ (eq-eqb t.0 t.0 refl)

pub push_is_middle : {w : World} → IsLawful w → (o off : ℕ) (side : Side) (t : Option Ref) (ns : Nodes) (es : Pushed) (origin : Ref) (weight : Weight) → origin.0 ≡ o → AreNodesAt w ns es → is_middle w o off (push_middle side t ns) (push_record side (tree_at t) es origin off weight) ≡ true
push_is_middle {w} law o off sides.Left t (nodes.One x) (pushes.One e) origin weight same at =
    and_from _ (eqb off off) (and_from _ (eqb o origin.0) (and_from (is_tree w (tree_of t) (tree_at t).0) _ (tree_is law t) (and_from _ true (node_is w x at.weight e.0 at.here) refl)) (eq-eqb o origin.0 (sym same))) (eq-eqb off off refl)
push_is_middle {w} law o off sides.Left t (nodes.Two x y) (pushes.Two e f) origin weight same at =
    and_from _ (eqb off off) (and_from _ (eqb o origin.0) (and_from (is_tree w (tree_of t) (tree_at t).0) _ (tree_is law t) (and_from _ _ (node_is w x at.0.weight e.0 at.0.here) (and_from _ true (node_is w y at.1.weight f.0 at.1.here) refl))) (eq-eqb o origin.0 (sym same))) (eq-eqb off off refl)
push_is_middle {w} law o off sides.Right t (nodes.One x) (pushes.One e) origin weight same at =
    and_from _ (eqb off off) (and_from _ (eqb o origin.0) (and_from (is_tree w (tree_of t) (tree_at t).0) _ (tree_is law t) (and_from _ true (node_is w x at.weight e.0 at.here) refl)) (eq-eqb o origin.0 (sym same))) (eq-eqb off off refl)
push_is_middle {w} law o off sides.Right t (nodes.Two x y) (pushes.Two e f) origin weight same at =
    and_from _ (eqb off off) (and_from _ (eqb o origin.0) (and_from (is_tree w (tree_of t) (tree_at t).0) _ (tree_is law t) (and_from _ _ (node_is w x at.0.weight e.0 at.0.here) (and_from _ true (node_is w y at.1.weight f.0 at.1.here) refl))) (eq-eqb o origin.0 (sym same))) (eq-eqb off off refl)
push_is_middle law o off side t _ _ origin weight same at = absurd at

first_pushed : {w : World} → (d limit : ℕ) (es : Pushed) → AllByRecursion (IsElement w d limit) (pushed_list es) → (e : ℕ) × IsElement w d limit e × (length (means (recs w) e) ≤ length (flat_map (means (recs w)) (pushed_list es)))
first_pushed {w} d limit (pushes.One e) k = (e.0, k.0, rw (append-nil (means (recs w) e.0)) (omega arith))
first_pushed {w} d limit (pushes.Two e f) k = (e.0, k.0, rw (length-append (means (recs w) e.0) (flat_map (means (recs w)) (f.0 ∷ []))) (omega arith))

pub record LaterFits (d : View) (p : ℕ) (r : Rec) (off : ℕ) : Type 0 where
  pub fits : Fits d p r
  pub few : off + 1 < 32

pub push_later : {v d : View} {run : Span} → IsLawful v.seen → IsLawfulView d → Grows v.seen d.seen → (p : ℕ) → run.next ≤ p → contains d.hand.reserved p ≡ true → (side : Side) (t : Option Ref) (ns : Nodes) (es : Pushed) (family : Family) (k : PushAsk v run side t ns family) → AllByRecursion (λ e. e < p) (pushed_list es) → AreNodesAt d.seen ns es
    → (s o : Ref) (off : ℕ) → family ≡ Later s o off → IsUnpassed s d.hand.claims → (w : Weight) → w.size ≡ length (flat_map (means (recs d.seen)) (pushed_list es)) + length (means (recs d.seen) (tree_at t).0) → w.key.0 < 18446744073709551616 → LaterFits d p (push_record side (tree_at t) es o (off + 1) w) off
push_later {v} {d} {run} law0 law g p high held side t ns es family k under at s o off same newest w size key =
    let low = place_fits law p held in
    let f = found law0 law.world g p high (above_fixed law p held) side t ns es family k under at in
    let l : IsLater v k.depth run.next s o.0 off (push_middle side t ns) = rw same at k.follows in
    let here = g.records s.0 l.rec l.here in
    let made = made_tree_up v.seen d.seen (lawful_names law0) g s.0 l.rec l.here _ l.makes in
    let larger : w.size ≤ length (means (recs d.seen) s.0) = (let z = ap length (means_kept (recs v.seen) (recs d.seen) (lawful_names law0) g.records s.0 (l.rec, l.here)) in omega (arith, size, f.both, l.larger, z)) in
    let n = next_fits law.world s.0 o.0 off k.depth w.size l.rec _ here made l.family (later_up law0 law.world g s.0 k.depth l.rec l.here l.own) larger in
    let e = first_pushed (suc k.depth) p es f.nodes.each in
    let few = level_few law.world (suc k.depth) p e.0 e.1 (omega (arith, e.2, f.both, k.middle.small)) in
    let off_few : off + 1 < 32 = omega (arith, few, n.shallow) in
    let z : off + 1 ≡ suc off = omega arith in
    let fam : family_of p (push_record side (tree_at t) es o (suc off) w) ≡ (o.0, suc off) = push_family p side (tree_at t) es o (suc off) w in
    let o_low = origin_low law.world s.0 o.0 off l.rec here l.family in
    let low_elements = all_left _ (middle_elements (push_middle side t ns)) _ l.low in
    let low_nodes : AllByRecursion (λ e. height (recs v.seen) e < o.0) (all_of (nodes_list ns)) = rw (push_elements side t ns) at low_elements in
    let low_trees : AllByRecursion (λ e. height (recs v.seen) e < o.0) (if_there (tree_of t)) = rw (push_trees side t ns) at (all_right _ (middle_elements (push_middle side t ns)) _ l.low) in
    let pos = some_low v.seen o.0 ns low_nodes in
    let push_low : PushLow d.seen (tree_at t) (pushed_list es) o.0 = record {
      tree = tree_low law0 law.world g (suc k.depth) run.next o.0 t pos (rw (push_trees side t ns) at k.middle.trees) low_trees;
      each = shift_back d.seen o.0 (pushed_list es) pos (f.nodes.low (o.0 - 1) (shift v.seen o.0 (all_of (nodes_list ns)) low_nodes));
    } in
    let own = push_own d.seen (suc k.depth) side (tree_at t) es o (suc off) w (owns (pushed_list es) f.nodes.each) in
    let root : is_rooted (recs d.seen) p (push_record side (tree_at t) es o (suc off) w) ≡ true = rw (fam, push_size side (tree_at t) es o (suc off) w, own) (cond-false (eqb (suc off) 0) true _ (ne_eqb (suc off) 0 (λ q. omega (arith, q))) ∙ and_from (leb (suc off) (suc k.depth)) _ (le-leb (suc off) (suc k.depth) (omega (arith, n.shallow))) n.first) in
    rw z (record {
      fits = fits_later law p held (push_record side (tree_at t) es o (suc off) w) (suc k.depth) o.0 off
          (push_well law.world (suc k.depth) p p (omega arith) low (tree_at t) o (suc off) w f.tree.is (omega (arith, o_low, l.under, high, low)) (omega (arith, off_few)) (omega (arith, size, f.both, k.middle.small)) key side es f.nodes.each (size ∙ sym (both_length side (flat_map (means (recs d.seen)) (pushed_list es)) (means (recs d.seen) (tree_at t).0))) push_low root)
          fam (omega (arith, o_low, l.under, high))
          (makes_next d.seen d.hand.claims s o.0 off l.rec _ l.left l.right (push_middle side t ns) newest here l.family made (push_is_middle law.world o.0 (suc off) side t ns es o w refl at))
          (later_free (recs d.seen) p side (tree_at t) es o off w);
      few = off_few;
    })
  where
    owns : (es : List ℕ) → AllByRecursion (IsElement d.seen (suc k.depth) p) es → AllByRecursion (λ e. level (recs d.seen) e ≡ suc k.depth) es
    owns [] h = tt
    owns (e ∷ es) h = (let t = at_true _ (recs d.seen e) h.0.sort in level_unique law.world e (suc k.depth) t.0 t.1 (element_levelled t.0 (sorts_agree _ _ t.2)) h.0.of_level, owns es h.1)

-- ---- what was put

pub push_level : (g : ℕ → ℕ → Bool) (d : ℕ) (side : Side) (t : Ref) (es : Pushed) (o : Ref) (off : ℕ) (w : Weight) → level_of g (push_record side t es o off w) d ≡ g t.0 d && list_all (λ q. g q d) (pushed_list es)
push_level g d sides.Left t (pushes.One e) o off w = refl
push_level g d sides.Left t (pushes.Two e f) o off w = refl
push_level g d sides.Right t (pushes.One e) o off w = refl
push_level g d sides.Right t (pushes.Two e f) o off w = refl

pub push_means : (rs : Records) (g : ℕ → List ℕ) (p : ℕ) (side : Side) (t : Ref) (es : Pushed) (o : Ref) (off : ℕ) (w : Weight) → means_of rs g p (push_record side t es o off w) ≡ beside side (flat_map g (pushed_list es)) (g t.0)
push_means rs g p sides.Left t (pushes.One e) o off w = refl
push_means rs g p sides.Left t (pushes.Two e f) o off w = refl
push_means rs g p sides.Right t (pushes.One e) o off w = refl
push_means rs g p sides.Right t (pushes.Two e f) o off w = refl

pub push_tree : (side : Side) (t : Ref) (es : Pushed) (o : Ref) (off : ℕ) (w : Weight) → is_tree_rec (push_record side t es o off w) ≡ true
push_tree sides.Left t (pushes.One e) o off w = refl
push_tree sides.Left t (pushes.Two e f) o off w = refl
push_tree sides.Right t (pushes.One e) o off w = refl
push_tree sides.Right t (pushes.Two e f) o off w = refl

push_height : {w : World} → IsLawful w → (p : ℕ) (side : Side) (t : Ref) (es : Pushed) (o : Ref) (off : ℕ) (weight : Weight) → recs w p ≡ Some (push_record side t es o off weight) → height (recs w) p ≡ o.0
push_height law p sides.Left t (pushes.One e) o off weight h = height_is law p _ h
push_height law p sides.Left t (pushes.Two e f) o off weight h = height_is law p _ h
push_height law p sides.Right t (pushes.One e) o off weight h = height_is law p _ h
push_height law p sides.Right t (pushes.Two e f) o off weight h = height_is law p _ h

middle_at : (w : World) (o off : ℕ) (side : Side) (t : Option Ref) (ns : Nodes) (p : ℕ) (r : Rec) → recs w p ≡ Some r → is_middle w o off (push_middle side t ns) r ≡ true → top.is_middle_at w o off (push_middle side t ns) p ≡ true
middle_at w o off sides.Left t ns p r e h = rw e h
middle_at w o off sides.Right t ns p r e h = rw e h

-- a run that was filled further, for so many credits
pub record Further (a b : View) (before after : Span) (count spent : ℕ) : Type 0 where
  pub filled : Filled a b before.next after.next
  pub next : after.next ≡ before.next + count
  pub end : after.end ≡ before.end
  pub held : IsInHand b.hand after
  pub credits : a.hand.credits ≤ b.hand.credits + spent

pub further : {a b c d : View} {x y z : Span} {r : Rec} {n : ℕ} → Laid a b x y n → Quiet b c → Put c d y.next r → z ≡ record y { next = y.next + 1 } → Further a d x z (n + 1) (gain_at c.seen y.next r)
further {a} {b} {c} {d} {x} {y} {z} {r} {n} l q p e =
    let low : x.next ≤ y.next = omega (arith, l.next) in
    let same : c.hand.credits ≡ b.hand.credits = ap (λ (h : Hand). h.credits) q.hand in
    let costs = put_costs p in
    rw e (record {
      filled = Filled-put low (Filled-quiet l.filled q) p;
      next = omega (arith, l.next);
      end = l.end;
      held = rw p.hand (IsInHand-next (recs c.seen) c.hand y r (gain_at c.seen y.next r) (rw q.hand l.held));
      credits = omega (arith, l.credits, same, costs);
    })

pub push_put : {v d : View} {run after : Span} (family : Family) (side : Side) (t : Option Ref) (ns : Nodes) (es : Pushed) → IsLawful v.seen → IsLawful d.seen → {spent : ℕ} → Further v d run after (suc (nodes_places ns)) spent → spent ≤ units_shown family (length (middle_items (means (recs v.seen)) (push_middle side t ns))) → AllByRecursion (λ e. e < after.next) (pushed_list es) → AreNodesAt d.seen ns es → 4 < after.next
    → (p : ℕ) → p < after.next → (o : Ref) (off : ℕ) (w : Weight) → recs d.seen p ≡ Some (push_record side (tree_at t) es o off w) → (k : ℕ) → IsMiddle v.seen k run.next (push_middle side t ns) → IsNext d.seen family (push_middle side t ns) p → MiddlePut v d run after family (suc (nodes_places ns)) (push_middle side t ns) p
push_put {v} {d} {run} {after} family side t ns es law law2 l spends under at four p low o off w here k mid next = record {
  filled = l.filled;
  next = l.next;
  end = l.end;
  held = l.held;
  tree = λ n m. (let f = found_at law law2 l.filled.grows n run.next after.next (omega (arith, l.next)) four side t ns es m under at in record {
    under = low;
    sort = rw here (push_tree side (tree_at t) es o off w);
    of_level = level_is law2 p _ here (suc n) ∙ (push_level (is_of_level (recs d.seen)) (suc n) side (tree_at t) es o off w ∙ and_from (is_of_level (recs d.seen) (tree_at t).0 (suc n)) _ f.tree.is.of_level (all_of_level d.seen (suc n) after.next (pushed_list es) f.nodes.each));
  });
  items = (let f = found_at law law2 l.filled.grows k run.next after.next (omega (arith, l.next)) four side t ns es mid under at in means_is (recs d.seen) (lawful_names law2) p _ here ∙ (push_means (recs d.seen) (means (recs d.seen)) p side (tree_at t) es o off w ∙ f.items));
  made = next;
  credits = omega (arith, l.credits, spends);
}

pub push_next : {w : World} → IsLawful w → (s o : Ref) (off : ℕ) (family : Family) → family ≡ Later s o off → (side : Side) (t : Option Ref) (ns : Nodes) (es : Pushed) → AreNodesAt w ns es → (p : ℕ) (weight : Weight) → recs w p ≡ Some (push_record side (tree_at t) es o (off + 1) weight) → IsNext w family (push_middle side t ns) p
push_next {w} law s o off family same side t ns es at p weight here =
    let z : off + 1 ≡ suc off = omega arith in
    let e : recs w p ≡ Some (push_record side (tree_at t) es o (suc off) weight) = rw z at here in
    rw same (middle_at w o.0 (suc off) side t ns p _ e (push_is_middle law o.0 (suc off) side t ns es o weight refl at), omega (arith, push_height law p side (tree_at t) es o (suc off) weight e))

-- ---- facts of an earlier world, in a later one

pub tree_later : {a b : World} {d limit t : ℕ} → Grows a b → IsTree a d limit t → holds (recs b) t is_tree_rec ≡ true
tree_later {a} {b} {d} {limit} {t} g k = let z = at_true is_tree_rec (recs a t) k.sort in rw (g.records t z.0 z.1) z.2

pub size_later : {a b : World} {d limit : ℕ} → IsLawful a → Grows a b → (t : Option Ref) → IsTree a d limit (tree_at t).0 → (p : Ref) → p ≡ tree_at t → length (means (recs b) p.0) ≡ length (means (recs a) (tree_at t).0)
size_later {a} {b} law g t k p e = rw e (let z = at_true is_tree_rec (recs a (tree_at t).0) k.sort in ap length (sym (means_kept (recs a) (recs b) (lawful_names law) g.records (tree_at t).0 (z.0, z.1))))

pub nodes_later : {a b : World} → IsLawful a → Grows a b → (d limit : ℕ) (es : List ℕ) → AllByRecursion (IsElement a d limit) es → length (flat_map (means (recs b)) es) ≡ length (flat_map (means (recs a)) es)
nodes_later law g d limit es k = ap length (sym (items_up law g d limit es k))

pub shown_later : {a b : World} → Grows a b → (ns : Nodes) (es : Pushed) → AreNodesAt a ns es → AreNodesAt b ns es
shown_later g (nodes.One x) (pushes.One e) k = node_grows g x e.0 k
shown_later g (nodes.Two x y) (pushes.Two e f) k = (node_grows g x e.0 k.0, node_grows g y f.0 k.1)
shown_later g _ _ k = absurd k

-- what is known once the nodes are put and weighed
pub record Weighed (v d : View) (run : Span) (p : ℕ) (ns : Nodes) (es : Pushed) (t : Option Ref) (size : ℕ) : Type 0 where
  pub law0 : IsLawful v.seen
  pub law : IsLawfulView d
  pub grows : Grows v.seen d.seen
  pub high : run.next ≤ p
  pub held : contains d.hand.reserved p ≡ true
  pub under : AllByRecursion (λ e. e < p) (pushed_list es)
  pub shown : AreNodesAt d.seen ns es
  pub counts : size ≡ length (flat_map (means (recs d.seen)) (pushed_list es)) + length (means (recs d.seen) (tree_at t).0)
  pub unpassed : (s : Ref) → IsUnpassed s v.hand.claims → IsUnpassed s d.hand.claims
  pub credits : v.hand.credits ≤ d.hand.credits

pub weighed : {v b c d : View} {run y : Span} {side : Side} {t : Option Ref} {ns : Nodes} {es : Pushed} {family : Family} → IsLawful v.seen → IsLawfulView b → IsLawfulView d → PushAsk v run side t ns family → NodesPut v b run y ns es → Quiet b c → Quiet c d → (r : Ref) → r ≡ tree_at t → (above below : ℕ) → above ≡ length (flat_map (means (recs b.seen)) (pushed_list es)) → below ≡ length (means (recs c.seen) r.0) → Weighed v d run y.next ns es t (above + below)
weighed {v} {b} {c} {d} {run} {y} {side} {t} {ns} {es} {family} law0 law1 law k n q1 q2 r e above below sa sb =
    let l = n.laid in
    let in_b : contains b.hand.reserved y.next ≡ true = l.held.each y.next (omega arith) (omega (arith, l.next, l.end, k.room)) in
    let f = found law0 law1.world l.filled.grows y.next (omega (arith, l.next)) (above_fixed law1 y.next in_b) side t ns es family k n.under n.shown in
    let q = Quiet_trans q1 q2 in
    let x = nodes_later law1.world q.grows (suc k.depth) y.next (pushed_list es) f.nodes.each in
    let z1 = size_later law1.world q1.grows t f.tree.is r e in
    let z2 = size_later law1.world q.grows t f.tree.is (tree_at t) refl in
    record {
      law0 = law0;
      law = law;
      grows = grows_trans l.filled.grows q.grows;
      high = omega (arith, l.next);
      held = rw q.hand in_b;
      under = n.under;
      shown = shown_later q.grows ns es n.shown;
      counts = omega (arith, sa, sb, x, z1, z2);
      unpassed = λ s h. unpassed_quiet q s (l.unpassed s h);
      credits = (let same : d.hand.credits ≡ b.hand.credits = ap (λ (h : Hand). h.credits) q.hand in omega (arith, l.credits, same));
    }

-- the first suspension of a family shows at most the units of the items that are pushed and pushed onto
pub first_spends : {v d : View} {run : Span} {p : ℕ} {ns : Nodes} {es : Pushed} {t : Option Ref} {size : ℕ} → Weighed v d run p ns es t size → (side : Side) (family : Family) → family ≡ First → PushAsk v run side t ns family → (o x : Ref) → o.0 ≡ p → (key : Item) (r : Rec) → r ≡ push_record side x es o 0 (record { size = size; key = key }) → gain_at d.seen p r ≤ units_shown family (length (middle_items (means (recs v.seen)) (push_middle side t ns)))
first_spends {v} {d} {run} {p} {ns} {es} {t} {size} w side family first k o x same key r is =
    let weight : Weight = record { size = size; key = key } in
    let own : family_of p (push_record side x es o 0 weight) ≡ (p, 0) = push_family p side x es o 0 weight ∙ ap (λ (n : ℕ). (n, 0)) same in
    let f = found w.law0 w.law.world w.grows p w.high (above_fixed w.law p w.held) side t ns es family k w.under w.shown in
    let counts : size ≡ length (middle_items (means (recs v.seen)) (push_middle side t ns)) = w.counts ∙ f.both in
    rw (first, is, ← counts) (first_gain d.seen p (push_record side x es o 0 weight) size (push_pending side x es o 0 weight) (push_size side x es o 0 weight) own)

pub later_spends : (w : World) (p : ℕ) (side : Side) (family : Family) (n : ℕ) (x : Ref) (es : Pushed) (o : Ref) (off : ℕ) (weight : Weight) (r : Rec) → r ≡ push_record side x es o (off + 1) weight → gain_at w p r ≤ units_shown family n
later_spends w p side family n x es o off weight r is =
    let z : off + 1 ≡ suc off = omega arith in
    rw is (free w p (push_record side x es o (off + 1) weight) (units_shown family n) (rw z (later_free (recs w) p side x es o off weight)))

pub weighed_first : {v d : View} {run : Span} {p : ℕ} {ns : Nodes} {es : Pushed} {t : Option Ref} {size : ℕ} → Weighed v d run p ns es t size → (side : Side) (family : Family) → family ≡ First → PushAsk v run side t ns family → (o r : Ref) → o.0 ≡ p → r ≡ tree_at t → (key : Item) → key.0 < 18446744073709551616 → Fits d p (push_record side r es o 0 (record { size = size; key = key }))
weighed_first {v} {d} {run} {p} {ns} {es} {t} {size} w side family first k o r same e key kf =
    let spends = first_spends w side family first k o (tree_at t) same key _ refl in
    rw e (push_first w.law0 w.law w.grows p w.high w.held side t ns es family k w.under w.shown o same (record { size = size; key = key }) w.counts kf (omega (arith, spends, k.credits, w.credits)))

pub weighed_later : {v d : View} {run : Span} {p : ℕ} {ns : Nodes} {es : Pushed} {t : Option Ref} {size : ℕ} → Weighed v d run p ns es t size → (side : Side) (family : Family) → PushAsk v run side t ns family → (s o r : Ref) (off : ℕ) → family ≡ Later s o off → r ≡ tree_at t → (key : Item) → key.0 < 18446744073709551616 → LaterFits d p (push_record side r es o (off + 1) (record { size = size; key = key })) off
weighed_later {v} {d} {run} {p} {ns} {es} {t} {size} w side family k s o r off same e key kf =
    let l : IsLater v k.depth run.next s o.0 off (push_middle side t ns) = rw same at k.follows in
    rw e (push_later w.law0 w.law w.grows p w.high w.held side t ns es family k w.under w.shown s o off same (w.unpassed s l.newest) (record { size = size; key = key }) w.counts kf)

-- the place that was put
pub weighed_put : {v b d n : View} {run y z : Span} {side : Side} {t : Option Ref} {ns : Nodes} {es : Pushed} {family : Family} {size : ℕ} {r : Rec} → Weighed v d run y.next ns es t size → IsLawfulView b → PushAsk v run side t ns family → NodesPut v b run y ns es → Quiet b d → Put d n y.next r → z ≡ record y { next = y.next + 1 } → IsLawful n.seen → (o : Ref) (off : ℕ) (w : Weight) (x : Ref) → r ≡ push_record side x es o off w → x ≡ tree_at t
    → gain_at d.seen y.next r ≤ units_shown family (length (middle_items (means (recs v.seen)) (push_middle side t ns))) → IsNext n.seen family (push_middle side t ns) y.next → (p : ℕ) → p ≡ y.next → MiddlePut v n run z family (suc (nodes_places ns)) (push_middle side t ns) p
weighed_put {v} {b} {d} {n} {run} {y} {z} {side} {t} {ns} {es} {family} {size} {r} w law1 k np q p e law2 o off weight x same ex spends next place at =
    let l = np.laid in
    let m = further l q p e in
    let znext : z.next ≡ y.next + 1 = ap (λ (s : Span). s.next) e in
    let four = above_fixed law1 y.next (l.held.each y.next (omega arith) (omega (arith, l.next, l.end, k.room))) in
    let count : nodes_places ns + 1 ≡ suc (nodes_places ns) = omega arith in
    let here : recs n.seen y.next ≡ Some (push_record side (tree_at t) es o off weight) = p.here ∙ ap Some (rw ex at same) in
    rw at (push_put family side t ns es w.law0 law2 (rw count at m) spends (higher (pushed_list es) w.under znext) (shown_later p.grows ns es w.shown) (omega (arith, four, znext)) y.next (omega (arith, znext)) o off weight here k.depth k.middle next)
  where
    higher : (es : List ℕ) → AllByRecursion (λ e. e < y.next) es → z.next ≡ y.next + 1 → AllByRecursion (λ e. e < z.next) es
    higher [] h q = tt
    higher (e ∷ es) h q = (omega (arith, h.0, q), higher es h.1 q)

pub next_put : {v d n : View} {run : Span} {p : ℕ} {ns : Nodes} {es : Pushed} {t : Option Ref} {size : ℕ} {r : Rec} → Weighed v d run p ns es t size → IsLawful n.seen → Put d n p r → (s o : Ref) (off : ℕ) (family : Family) → family ≡ Later s o off → (side : Side) (w : Weight) (x : Ref) → r ≡ push_record side x es o (off + 1) w → x ≡ tree_at t → IsNext n.seen family (push_middle side t ns) p
next_put {v} {d} {n} {run} {p} {ns} {es} {t} k law q s o off family same side w x e ex =
    push_next law s o off family same side t ns es (shown_later q.grows ns es k.shown) p w (q.here ∙ ap Some (rw ex at e))

-- ---- a middle that is a tree

pub tree_put : {v : View} {run : Span} (m : Middle) (t : Option Ref) (family : Family) → m ≡ middles.Tree t → IsLawful v.seen → (k : MiddleAsk v run m family) → (x : Ref) → x ≡ tree_at t → MiddlePut v v run run family (middle_places m) (middle_of m) x.0
tree_put {v} {run} m t family same law k x e =
    let mid : IsMiddle v.seen k.depth run.next (top.tree (tree_of t)) = rw same at k.middle in
    let g = grows_refl v.seen in
    rw (same, e) (record {
      filled = Filled-none v run.next;
      next = omega arith;
      end = refl;
      held = k.held;
      tree = λ d n. (tree_well law law g (suc d) run.next run.next (omega arith) k.above t n.trees).is;
      items = (tree_well law law g (suc k.depth) run.next run.next (omega arith) k.above t mid.trees).items;
      made = next family (rw same at k.follows);
      credits = omega arith;
    })
  where
    next : (f : Family) → IsFamily v k.depth run.next f (top.tree (tree_of t)) → IsNext v.seen f (top.tree (tree_of t)) (tree_at t).0
    next First l = tt
    next (Later s o off) l = (tree_is law t, high t l.low)
      where
        high : (t : Option Ref) → AllByRecursion (λ p. height (recs v.seen) p < o.0) (if_there (tree_of t)) → height (recs v.seen) (tree_at t).0 ≤ o.0
        high None h = let z = empty_height law in omega (arith, z)
        high (Some t) h = omega (arith, h.0)
