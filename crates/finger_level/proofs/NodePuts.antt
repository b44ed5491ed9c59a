-- Nodes that are put.
use Rattle.std.proofs.Common.{◌≡◌, ℕ, suc, ◌+◌, ◌<◌, ◌≤◌, refl, sym, ap, ◌∙◌, arith, Bool, true, false, Option, Some, None, List, [], ◌∷◌, ◌++◌, length}
use Rattle.std.specs.Prelude.{flat_map}
use Rattle.std.specs.List.{AllByRecursion, list_all}
use Rattle.std.proofs.lemmas.List.{append-nil, length-append}
use Rattle.std.proofs.lemmas.Grind.{flat_map-append}
use Rattle.lazy_rec.specs.declared.places.Ref.{Ref}
use Rattle.lazy_rec.specs.declared.records.Rec.TheVariants.{TEmpty}
use Rattle.lazy_rec.specs.declared.records.Sort.TheVariants as sorts
use Rattle.lazy_rec.specs.Named.{Records, NamedPlace, named, sort_of, same_sort}
use Rattle.lazy_rec.specs.Meaning.{means, means_of}
use Rattle.heap_store.specs.Span.{Span}
use Rattle.heap_store.specs.World.{World, recs, holds}
use Rattle.heap_store.specs.Growth.{Grows}
use Rattle.heap_store.specs.Lawful.{IsLawful, level_of, is_of_level, height, may_wait}
use Rattle.heap_store.specs.View.{View}
use Rattle.heap_store.proofs.LawfulLaws.{lawful_names}
use Rattle.heap_store.proofs.FixedPlaces.{fixed_records}
use Rattle.heap_store.proofs.GrowthLaws.{grows_refl, at_true}
use Rattle.heap_store.proofs.MeaningLaws.{means_is, means_kept}
use Rattle.heap_store.proofs.RecordLaws.{height_kept}
use Rattle.finger_level.specs.declared.few.Group.{Group}
use Rattle.finger_level.specs.declared.few.Group.TheVariants as group
use Rattle.finger_level.specs.declared.few.Weight.{Weight}
use Rattle.finger_level.specs.declared.level.Nodes.{Nodes}
use Rattle.finger_level.specs.declared.level.Nodes.TheVariants as nodes
use Rattle.finger_level.specs.declared.level.Pushed.{Pushed}
use Rattle.finger_level.specs.declared.level.Pushed.TheVariants as pushes
use Rattle.finger_level.specs.Few.{group_list, node_record}
use Rattle.finger_level.specs.declared.level.Side.{Side}
use Rattle.finger_level.specs.declared.level.Side.TheVariants as sides
use Rattle.finger_level.specs.Level.{all_of, nodes_list, nodes_places, tree_of, if_there, middle_elements, middle_trees, middle_items}
use Rattle.finger_level.specs.Reads.{is_element, is_tree_rec, IsNodeAt}
use Rattle.finger_level.specs.Puts.{IsElement, AreElements, IsTree, push_middle, tree_at, PartAsk, NodePut, AreNodesAt, NodesPut, Laid}
use Rattle.finger_level.specs.Pushes.{beside, pushed_list}
use Rattle.finger_level.proofs.Values.{level_is, value_height}
use Rattle.finger_level.proofs.Builds.{elements_up, element_there, tree_up, items_up, all_of_level}
use Rattle.finger_level.proofs.Laying.{are_up, laid_trans}

-- ---- lists of parts

pub all_left : {X : Type 0} (P : X → Type 0) (xs ys : List X) → AllByRecursion P (xs ++ ys) → AllByRecursion P xs
all_left P [] ys h = tt
all_left P (x ∷ xs) ys h = (h.0, all_left P xs ys h.1)

pub all_right : {X : Type 0} (P : X → Type 0) (xs ys : List X) → AllByRecursion P (xs ++ ys) → AllByRecursion P ys
all_right P [] ys h = h
all_right P (x ∷ xs) ys h = all_right P xs ys h.1

pub are_left : {w : World} → IsLawful w → (d limit : ℕ) (xs ys : List ℕ) → AreElements w d limit (xs ++ ys) → AreElements w d limit xs
are_left {w} law d limit xs ys k = record {
  each = all_left _ xs ys k.each;
  small = (let z : length (flat_map (means (recs w)) (xs ++ ys)) ≡ length (flat_map (means (recs w)) xs) + length (flat_map (means (recs w)) ys) = rw (flat_map-append (means (recs w)) xs ys) (length-append (flat_map (means (recs w)) xs) (flat_map (means (recs w)) ys)) in omega (arith, z, k.small));
}

pub are_right : {w : World} → IsLawful w → (d limit : ℕ) (xs ys : List ℕ) → AreElements w d limit (xs ++ ys) → AreElements w d limit ys
are_right {w} law d limit xs ys k = record {
  each = all_right _ xs ys k.each;
  small = (let z : length (flat_map (means (recs w)) (xs ++ ys)) ≡ length (flat_map (means (recs w)) xs) + length (flat_map (means (recs w)) ys) = rw (flat_map-append (means (recs w)) xs ys) (length-append (flat_map (means (recs w)) xs) (flat_map (means (recs w)) ys)) in omega (arith, z, k.small));
}

-- elements below a higher place
pub are_higher : {w : World} → IsLawful w → (d limit more : ℕ) (es : List ℕ) → limit ≤ more → AreElements w d limit es → AreElements w d more es
are_higher {w} law d limit more es high k = record { each = elements_up law (grows_refl w) d limit more high es k.each; small = k.small }

-- ---- a node that stands

node_of_level : (g : ℕ → ℕ → Bool) (b : Group) (weight : Weight) (d : ℕ) → level_of g (node_record b weight) (suc d) ≡ list_all (λ q. g q d) (group_list b)
node_of_level g (group.Two x y) weight d = refl
node_of_level g (group.Three x y z) weight d = refl

node_items : (rs : Records) (g : ℕ → List ℕ) (p : ℕ) (b : Group) (weight : Weight) → means_of rs g p (node_record b weight) ≡ flat_map g (group_list b)
node_items rs g p (group.Two x y) weight = refl
node_items rs g p (group.Three x y z) weight = refl

node_sort : (b : Group) (weight : Weight) → sort_of (node_record b weight) ≡ sorts.Element
node_sort (group.Two x y) weight = refl
node_sort (group.Three x y z) weight = refl

node_waits : (b : Group) (weight : Weight) → may_wait (node_record b weight) ≡ false
node_waits (group.Two x y) weight = refl
node_waits (group.Three x y z) weight = refl

node_names : (P : ℕ → Type 0) (b : Group) (weight : Weight) → AllByRecursion P (group_list b) → AllByRecursion (λ (q : NamedPlace). P q.0) (named (node_record b weight))
node_names P (group.Two x y) weight k = (k.0, (k.1.0, tt))
node_names P (group.Three x y z) weight k = (k.0, (k.1.0, (k.1.1.0, tt)))

pub record NodeWell (w : World) (d p : ℕ) (b : Group) : Type 0 where
  pub of_level : is_of_level (recs w) p (suc d) ≡ true
  pub sort : holds (recs w) p is_element ≡ true
  pub items : means (recs w) p ≡ flat_map (means (recs w)) (group_list b)
  pub low : (m : ℕ) → AllByRecursion (λ e. height (recs w) e ≤ m) (group_list b) → height (recs w) p ≤ m

pub node_shown : {w : World} → IsLawful w → (d limit p : ℕ) (b : Group) → AllByRecursion (IsElement w d limit) (group_list b) → IsNodeAt w b p → NodeWell w d p b
node_shown {w} law d limit p b k at = record {
  of_level = level_is law p _ at.here (suc d) ∙ (node_of_level (is_of_level (recs w)) b at.weight d ∙ all_of_level w d limit (group_list b) k);
  sort = rw at.here (ap (λ s. same_sort s sorts.Element) (node_sort b at.weight));
  items = means_is (recs w) (lawful_names law) p _ at.here ∙ node_items (recs w) (means (recs w)) p b at.weight;
  low = λ m h. value_height law p m _ at.here (node_waits b at.weight) (node_names (λ e. height (recs w) e ≤ m) b at.weight h);
}

pub node_grows : {a b : World} → Grows a b → (n : Group) (p : ℕ) → IsNodeAt a n p → IsNodeAt b n p
node_grows g n p k = record { weight = k.weight; here = g.records p _ k.here }

-- ---- one or two nodes

pub second_ask : {v v1 : View} {run run1 : Span} → IsLawful v.seen → (a b : Group) (ns : Nodes) → ns ≡ nodes.Two a b → PartAsk v run (nodes_places ns) (all_of (nodes_list ns)) → Laid v v1 run run1 1 → PartAsk v1 run1 1 (group_list b)
second_ask {v} {v1} {run} {run1} law a b ns e k l =
    let n : AreElements v.seen k.depth run.next (group_list a ++ (group_list b ++ [])) = rw e at k.elements in
    let m : AreElements v.seen k.depth run.next (group_list b) = rw (append-nil (group_list b)) at (are_right law k.depth run.next (group_list a) (group_list b ++ []) n) in
    let room : run.next + 2 ≤ run.end = rw e at k.room in
    record {
      depth = k.depth;
      elements = are_up law l.filled.grows k.depth run1.next (group_list b) (are_higher law k.depth run.next run1.next (group_list b) (omega (arith, l.next)) m);
      held = l.held;
      room = omega (arith, room, l.next, l.end);
    }

pub first_ask : {v : View} {run : Span} → IsLawful v.seen → (a b : Group) (ns : Nodes) → ns ≡ nodes.Two a b → PartAsk v run (nodes_places ns) (all_of (nodes_list ns)) → PartAsk v run 1 (group_list a)
first_ask {v} {run} law a b ns e k =
    let n : AreElements v.seen k.depth run.next (group_list a ++ (group_list b ++ [])) = rw e at k.elements in
    let room : run.next + 2 ≤ run.end = rw e at k.room in
    record { depth = k.depth; elements = are_left law k.depth run.next (group_list a) (group_list b ++ []) n; held = k.held; room = omega (arith, room) }

pub only_ask : {v : View} {run : Span} → IsLawful v.seen → (a : Group) (ns : Nodes) → ns ≡ nodes.One a → PartAsk v run (nodes_places ns) (all_of (nodes_list ns)) → PartAsk v run 1 (group_list a)
only_ask {v} {run} law a ns e k =
    let n : AreElements v.seen k.depth run.next (group_list a ++ []) = rw e at k.elements in
    record { depth = k.depth; elements = rw (append-nil (group_list a)) at n; held = k.held; room = rw e at k.room }

pub one_put : {v v1 : View} {run run1 : Span} → (a : Group) (ns : Nodes) (e : Ref) → ns ≡ nodes.One a → NodePut v v1 run run1 a e.0 → NodesPut v v1 run run1 ns (pushes.One e)
one_put a ns e same k = rw same (record { laid = k.laid; under = (omega (arith, k.at_next, k.laid.next), tt); shown = record { weight = k.weight; here = k.here } })

pub two_put : {v v1 v2 : View} {run run1 run2 : Span} → (a b : Group) (ns : Nodes) (e f : Ref) → ns ≡ nodes.Two a b → NodePut v v1 run run1 a e.0 → NodePut v1 v2 run1 run2 b f.0 → NodesPut v v2 run run2 ns (pushes.Two e f)
two_put {v} {v1} {v2} {run} {run1} {run2} a b ns e f same k l = rw same (record {
  laid = laid_trans k.laid l.laid;
  under = (omega (arith, k.at_next, k.laid.next, l.laid.next), (omega (arith, l.at_next, l.laid.next), tt));
  shown = (record { weight = k.weight; here = l.laid.filled.grows.records _ _ k.here }, record { weight = l.weight; here = l.here });
})

-- ---- what a suspended push stands on

pub push_elements : (side : Side) (t : Option Ref) (ns : Nodes) → middle_elements (push_middle side t ns) ≡ all_of (nodes_list ns)
push_elements sides.Left t ns = refl
push_elements sides.Right t ns = refl

pub push_trees : (side : Side) (t : Option Ref) (ns : Nodes) → middle_trees (push_middle side t ns) ≡ if_there (tree_of t)
push_trees sides.Left t ns = refl
push_trees sides.Right t ns = refl

pub push_items : (f : ℕ → List ℕ) (side : Side) (t : Option Ref) (ns : Nodes) → middle_items f (push_middle side t ns) ≡ beside side (flat_map f (all_of (nodes_list ns))) (flat_map f (if_there (tree_of t)))
push_items f sides.Left t ns = refl
push_items f sides.Right t ns = refl

-- the tree that is there, or the empty one
pub record TreeWell (a b : World) (d limit : ℕ) (t : Option Ref) : Type 0 where
  pub is : IsTree b d limit (tree_at t).0
  pub items : means (recs b) (tree_at t).0 ≡ flat_map (means (recs a)) (if_there (tree_of t))

pub tree_well : {a b : World} → IsLawful a → IsLawful b → Grows a b → (d limit more : ℕ) → limit ≤ more → 4 < more → (t : Option Ref) → AllByRecursion (IsTree a d limit) (if_there (tree_of t)) → TreeWell a b d more t
tree_well {a} {b} law law2 g d limit more high four None k =
    let here = (fixed_records law2).empty_tree in
    record { is = record { under = four; sort = rw here refl; of_level = level_is law2 4 TEmpty here d }; items = means_is (recs b) (lawful_names law2) 4 TEmpty here }
tree_well {a} {b} law law2 g d limit more high four (Some t) k =
    let n = at_true is_tree_rec (recs a t.0) k.0.sort in
    record { is = tree_up law g d limit more t.0 high k.0; items = sym (means_kept (recs a) (recs b) (lawful_names law) g.records t.0 (n.0, n.1)) ∙ sym (append-nil (means (recs a) t.0)) }

-- the nodes
pub record PushedWell (a b : World) (d limit : ℕ) (ns : Nodes) (es : Pushed) : Type 0 where
  pub each : AllByRecursion (IsElement b (suc d) limit) (pushed_list es)
  pub items : flat_map (means (recs b)) (pushed_list es) ≡ flat_map (means (recs a)) (all_of (nodes_list ns))
  pub low : (m : ℕ) → AllByRecursion (λ e. height (recs a) e ≤ m) (all_of (nodes_list ns)) → AllByRecursion (λ e. height (recs b) e ≤ m) (pushed_list es)

pub heights_up : {a b : World} → IsLawful a → Grows a b → (d limit m : ℕ) (es : List ℕ) → AllByRecursion (IsElement a d limit) es → AllByRecursion (λ e. height (recs a) e ≤ m) es → AllByRecursion (λ e. height (recs b) e ≤ m) es
heights_up law g d limit m [] k h = tt
heights_up {a} {b} law g d limit m (e ∷ es) k h = (rw (height_kept (recs a) (recs b) (lawful_names law) g.records e (element_there d limit e k.0)) at h.0, heights_up law g d limit m es k.1 h.1)

pub lows_up : {a b : World} → IsLawful a → Grows a b → (d limit o : ℕ) (es : List ℕ) → AllByRecursion (IsElement a d limit) es → AllByRecursion (λ e. height (recs a) e < o) es → AllByRecursion (λ e. height (recs b) e < o) es
lows_up law g d limit o [] k h = tt
lows_up {a} {b} law g d limit o (e ∷ es) k h = (rw (height_kept (recs a) (recs b) (lawful_names law) g.records e (element_there d limit e k.0)) at h.0, lows_up law g d limit o es k.1 h.1)

pub pushed_well : {a b : World} → IsLawful a → IsLawful b → Grows a b → (d limit more : ℕ) → limit ≤ more → (ns : Nodes) (es : Pushed) → AllByRecursion (IsElement a d limit) (all_of (nodes_list ns)) → AllByRecursion (λ e. e < more) (pushed_list es) → AreNodesAt b ns es → PushedWell a b d more ns es
pushed_well {a} {b} law law2 g d limit more high (nodes.One x) (pushes.One e) k under at =
    let kx = all_left _ (group_list x) [] k in
    let n = node_shown law2 d more e.0 x (elements_up law g d limit more high (group_list x) kx) at in
    record {
      each = (record { under = under.0; sort = n.sort; of_level = n.of_level }, tt);
      items = ap (λ xs. xs ++ []) (n.items ∙ sym (items_up law g d limit (group_list x) kx)) ∙ (append-nil _ ∙ ap (flat_map (means (recs a))) (sym (append-nil (group_list x))));
      low = λ m h. (n.low m (heights_up law g d limit m (group_list x) kx (all_left _ (group_list x) [] h)), tt);
    }
pushed_well {a} {b} law law2 g d limit more high (nodes.Two x y) (pushes.Two e f) k under at =
    let kx = all_left _ (group_list x) (group_list y ++ []) k in
    let ky = all_left _ (group_list y) [] (all_right _ (group_list x) (group_list y ++ []) k) in
    let n = node_shown law2 d more e.0 x (elements_up law g d limit more high (group_list x) kx) at.0 in
    let m = node_shown law2 d more f.0 y (elements_up law g d limit more high (group_list y) ky) at.1 in
    record {
      each = (record { under = under.0; sort = n.sort; of_level = n.of_level }, (record { under = under.1.0; sort = m.sort; of_level = m.of_level }, tt));
      items = rw (n.items, m.items, ← items_up law g d limit (group_list x) kx, ← items_up law g d limit (group_list y) ky, append-nil (group_list y), append-nil (flat_map (means (recs a)) (group_list y))) (sym (flat_map-append (means (recs a)) (group_list x) (group_list y)));
      low = λ z h. (n.low z (heights_up law g d limit z (group_list x) kx (all_left _ (group_list x) _ h)), (m.low z (heights_up law g d limit z (group_list y) ky (all_left _ (group_list y) [] (all_right _ (group_list x) _ h))), tt));
    }
pushed_well law law2 g d limit more high _ _ k under at = absurd at
