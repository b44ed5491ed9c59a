-- A row of nodes that are put.
use Rattle.std.proofs.Common.{◌≡◌, ℕ, suc, ◌+◌, ◌<◌, ◌≤◌, refl, sym, ap, ◌∙◌, arith, Bool, true, Option, Some, None, List, [], ◌∷◌, ◌++◌}
use Rattle.std.specs.Prelude.{flat_map}
use Rattle.std.specs.List.{AllByRecursion}
use Rattle.std.proofs.lemmas.Bool.{and_from}
use Rattle.std.proofs.lemmas.List.{append-nil}
use Rattle.std.proofs.lemmas.Grind.{flat_map-append}
use Rattle.lazy_rec.specs.Meaning.{means}
use Rattle.heap_store.specs.Span.{Span}
use Rattle.heap_store.specs.World.{World, recs}
use Rattle.heap_store.specs.Completion.{are_nodes, is_node}
use Rattle.heap_store.specs.Growth.{Grows}
use Rattle.heap_store.specs.Lawful.{IsLawful, height}
use Rattle.heap_store.specs.View.{View}
use Rattle.heap_store.proofs.Alls.{All-append}
use Rattle.finger_level.specs.declared.few.Few.{Few}
use Rattle.finger_level.specs.declared.level.Nodes.{Nodes}
use Rattle.finger_level.specs.declared.level.Nodes.TheVariants as nodes
use Rattle.finger_level.specs.declared.level.NodeRow.{NodeRow}
use Rattle.finger_level.specs.declared.level.Pushed.{Pushed}
use Rattle.finger_level.specs.declared.level.Pushed.TheVariants as pushes
use Rattle.finger_level.specs.Few.{few_list}
use Rattle.finger_level.specs.Level.{all_of, nodes_list, nodes_places, rest_of_row, row_list, row_places}
use Rattle.finger_level.specs.Pushes.{pushed_list}
use Rattle.finger_level.specs.Keyed.{AreKeyed}
use Rattle.finger_level.specs.Puts.{IsElement, PartAsk, AreNodesAt, NodesPut, IsRestAt, IsRowAt, RowPut}
use Rattle.finger_level.proofs.Laying.{are_up, laid_trans}
use Rattle.finger_level.proofs.NodePuts.{all_left, all_right, are_left, are_right, are_higher, pushed_well}
use Rattle.finger_level.proofs.Suspending.{node_is}
use Rattle.finger_level.proofs.Pushing.{shown_later}
use Rattle.finger_level.proofs.Keying.{all_keyed_up}

-- the elements of both parts of a row
pub row_elements : (row : NodeRow) → all_of (row_list row) ≡ all_of (nodes_list row.near) ++ all_of (rest_of_row row.far)
row_elements row = flat_map-append (λ n. n) (nodes_list row.near) (rest_of_row row.far)

-- ---- what the puts of both parts ask

pub near_ask : {v : View} {run : Span} → IsLawful v.seen → (row : NodeRow) → PartAsk v run (row_places row) (all_of (row_list row)) → PartAsk v run (nodes_places row.near) (all_of (nodes_list row.near))
near_ask {v} {run} law row k = record {
  depth = k.depth;
  elements = are_left law k.depth run.next (all_of (nodes_list row.near)) (all_of (rest_of_row row.far)) (rw (row_elements row) at k.elements);
  held = k.held;
  room = omega (arith, k.room);
}

pub far_ask : {v b : View} {run y : Span} {es : Pushed} → IsLawful v.seen → (row : NodeRow) (ns : Nodes) → row.far ≡ Some ns → PartAsk v run (row_places row) (all_of (row_list row)) → NodesPut v b run y row.near es → PartAsk b y (nodes_places ns) (all_of (nodes_list ns))
far_ask {v} {b} {run} {y} law row ns same k p =
    let each = are_right law k.depth run.next (all_of (nodes_list row.near)) (all_of (rest_of_row row.far)) (rw (row_elements row) at k.elements) in
    let room : run.next + (nodes_places row.near + nodes_places ns) ≤ run.end = rw same at k.room in
    record {
      depth = k.depth;
      elements = are_up law p.laid.filled.grows k.depth y.next (all_of (nodes_list ns)) (are_higher law k.depth run.next y.next (all_of (nodes_list ns)) (omega (arith, p.laid.next)) (rw same at each));
      held = p.laid.held;
      room = omega (arith, room, p.laid.next, p.laid.end);
    }

pub higher : (m n : ℕ) (es : List ℕ) → m ≤ n → AllByRecursion (λ e. e < m) es → AllByRecursion (λ e. e < n) es
higher m n [] le h = tt
higher m n (e ∷ es) le h = (omega (arith, h.0, le), higher m n es le h.1)

pub near_put : {v b : View} {run y : Span} {es : Pushed} → (row : NodeRow) → row.far ≡ None → NodesPut v b run y row.near es → (f : Few) → few_list f ≡ pushed_list es → RowPut v b run y row f
near_put {es = es} row same p f is =
    let count : nodes_places row.near + 0 ≡ nodes_places row.near = omega arith in
    record {
      laid = rw (same, count) p.laid;
      under = rw is p.under;
      shown = record { near = es; near_at = p.shown; far = []; far_at = rw same refl; both = is ∙ sym (append-nil (pushed_list es)) };
    }

pub both_put : {v b c : View} {run y z : Span} {es fs : Pushed} → (row : NodeRow) (ns : Nodes) → row.far ≡ Some ns → NodesPut v b run y row.near es → NodesPut b c y z ns fs → (f : Few) → few_list f ≡ pushed_list es ++ pushed_list fs → RowPut v c run z row f
both_put {y = y} {z = z} {es = es} {fs = fs} row ns same p q f is = record {
  laid = rw same (laid_trans p.laid q.laid);
  under = rw is (All-append _ (pushed_list es) (pushed_list fs) (higher y.next z.next (pushed_list es) (omega (arith, q.laid.next)) p.under) q.under);
  shown = record { near = es; near_at = shown_later q.laid.filled.grows row.near es p.shown; far = pushed_list fs; far_at = rw same (fs, q.shown, refl); both = is };
}

-- ---- a row that stands

rest_later : {a b : World} → Grows a b → (o : Option Nodes) (ps : List ℕ) → IsRestAt a o ps → IsRestAt b o ps
rest_later g None ps k = k
rest_later g (Some ns) ps k = (k.0, shown_later g ns k.0 k.1, k.2)

pub row_later : {a b : World} → Grows a b → (row : NodeRow) (es : Few) → IsRowAt a row es → IsRowAt b row es
row_later g row es k = record { near = k.near; near_at = shown_later g row.near k.near k.near_at; far = k.far; far_at = rest_later g row.far k.far k.far_at; both = k.both }

-- it is the list of its nodes
nodes_are : (w : World) (ns : Nodes) (es : Pushed) → AreNodesAt w ns es → are_nodes w (nodes_list ns) (pushed_list es) ≡ true
nodes_are w (nodes.One x) (pushes.One e) at = and_from (is_node w _ e.0) true (node_is w x at.weight e.0 at.here) refl
nodes_are w (nodes.Two x y) (pushes.Two e f) at = and_from (is_node w _ e.0) _ (node_is w x at.0.weight e.0 at.0.here) (and_from (is_node w _ f.0) true (node_is w y at.1.weight f.0 at.1.here) refl)
nodes_are w _ _ at = absurd at

rest_is : (w : World) (o : Option Nodes) (ps : List ℕ) → IsRestAt w o ps → are_nodes w (rest_of_row o) ps ≡ true
rest_is w None ps k = rw k refl
rest_is w (Some ns) ps k = rw (← k.2) (nodes_are w ns k.0 k.1)

in_line : (w : World) (ns : Nodes) (es : Pushed) (ms : List (List ℕ)) (ps : List ℕ) → AreNodesAt w ns es → are_nodes w ms ps ≡ true → are_nodes w (nodes_list ns ++ ms) (pushed_list es ++ ps) ≡ true
in_line w (nodes.One x) (pushes.One e) ms ps at h = and_from (is_node w _ e.0) _ (node_is w x at.weight e.0 at.here) h
in_line w (nodes.Two x y) (pushes.Two e f) ms ps at h = and_from (is_node w _ e.0) _ (node_is w x at.0.weight e.0 at.0.here) (and_from (is_node w _ f.0) _ (node_is w y at.1.weight f.0 at.1.here) h)
in_line w _ _ ms ps at h = absurd at

pub row_is : (w : World) (row : NodeRow) (es : Few) → IsRowAt w row es → are_nodes w (row_list row) (few_list es) ≡ true
row_is w row es k = rw k.both (in_line w row.near k.near (rest_of_row row.far) k.far k.near_at (rest_is w row.far k.far k.far_at))

-- its nodes are elements of the next level, with the items of their elements
pub record ListWell (a b : World) (d limit : ℕ) (ns : List (List ℕ)) (ps : List ℕ) : Type 0 where
  pub each : AllByRecursion (IsElement b (suc d) limit) ps
  pub items : flat_map (means (recs b)) ps ≡ flat_map (means (recs a)) (all_of ns)
  pub low : (m : ℕ) → AllByRecursion (λ e. height (recs a) e ≤ m) (all_of ns) → AllByRecursion (λ e. height (recs b) e ≤ m) ps

rest_well : {a b : World} → IsLawful a → IsLawful b → Grows a b → (d limit more : ℕ) → limit ≤ more → (o : Option Nodes) (ps : List ℕ) → AllByRecursion (IsElement a d limit) (all_of (rest_of_row o)) → AllByRecursion (λ e. e < more) ps → IsRestAt b o ps → ListWell a b d more (rest_of_row o) ps
rest_well law law2 g d limit more high None ps k under at = rw at (record { each = tt; items = refl; low = λ m h. tt })
rest_well law law2 g d limit more high (Some ns) ps k under at =
    let p = pushed_well law law2 g d limit more high ns at.0 k (rw (← at.2) at under) at.1 in
    rw (← at.2) (record { each = p.each; items = p.items; low = p.low })

pub row_well : {a b : World} → IsLawful a → IsLawful b → Grows a b → (d limit more : ℕ) → limit ≤ more → (row : NodeRow) (es : Few) → AllByRecursion (IsElement a d limit) (all_of (row_list row)) → AllByRecursion (λ e. e < more) (few_list es) → IsRowAt b row es → ListWell a b d more (row_list row) (few_list es)
row_well {a} {b} law law2 g d limit more high row es k under at =
    let each : AllByRecursion (IsElement a d limit) (all_of (nodes_list row.near) ++ all_of (rest_of_row row.far)) = rw (row_elements row) at k in
    let low : AllByRecursion (λ e. e < more) (pushed_list at.near ++ at.far) = rw at.both at under in
    let p = pushed_well law law2 g d limit more high row.near at.near (all_left _ (all_of (nodes_list row.near)) (all_of (rest_of_row row.far)) each) (all_left _ (pushed_list at.near) at.far low) at.near_at in
    let q = rest_well law law2 g d limit more high row.far at.far (all_right _ (all_of (nodes_list row.near)) (all_of (rest_of_row row.far)) each) (all_right _ (pushed_list at.near) at.far low) at.far_at in
    let parts : (m : ℕ) → AllByRecursion (λ e. height (recs a) e ≤ m) (all_of (row_list row)) → AllByRecursion (λ e. height (recs a) e ≤ m) (all_of (nodes_list row.near) ++ all_of (rest_of_row row.far)) = λ m h. rw (row_elements row) at h in
    rw at.both (record {
      each = All-append _ (pushed_list at.near) at.far p.each q.each;
      items = flat_map-append (means (recs b)) (pushed_list at.near) at.far ∙ (rw (p.items, q.items) (sym (flat_map-append (means (recs a)) (all_of (nodes_list row.near)) (all_of (rest_of_row row.far)))) ∙ ap (flat_map (means (recs a))) (sym (row_elements row)));
      low = λ m h. All-append _ (pushed_list at.near) at.far (p.low m (all_left _ (all_of (nodes_list row.near)) (all_of (rest_of_row row.far)) (parts m h))) (q.low m (all_right _ (all_of (nodes_list row.near)) (all_of (rest_of_row row.far)) (parts m h)));
    })

-- ---- its keys

pub near_keyed : (w : World) (n : World) (keyed : Bool) (row : NodeRow) (es : Pushed) (f : Few) → few_list f ≡ pushed_list es → (AreKeyed keyed w (all_of (nodes_list row.near)) → AreKeyed keyed n (pushed_list es)) → AreKeyed keyed w (all_of (row_list row)) → AreKeyed keyed n (few_list f)
near_keyed w n keyed row es f is k h = rw is (k (all_left _ (all_of (nodes_list row.near)) (all_of (rest_of_row row.far)) (rw (row_elements row) at h)))

pub both_keyed : {v b n : World} → IsLawful v → IsLawful b → Grows v b → Grows b n → (keyed : Bool) (row : NodeRow) (ns : Nodes) → row.far ≡ Some ns → (es fs : Pushed) (f : Few) → few_list f ≡ pushed_list es ++ pushed_list fs → (AreKeyed keyed v (all_of (nodes_list row.near)) → AreKeyed keyed b (pushed_list es)) → (AreKeyed keyed b (all_of (nodes_list ns)) → AreKeyed keyed n (pushed_list fs)) → AreKeyed keyed v (all_of (row_list row)) → AreKeyed keyed n (few_list f)
both_keyed {v} law law1 g j keyed row ns same es fs f is k l h =
    let all : AreKeyed keyed v (all_of (nodes_list row.near) ++ all_of (rest_of_row row.far)) = rw (row_elements row) at h in
    let far : AreKeyed keyed v (all_of (nodes_list ns)) = rw same at (all_right _ (all_of (nodes_list row.near)) (all_of (rest_of_row row.far)) all) in
    rw is (All-append _ (pushed_list es) (pushed_list fs) (all_keyed_up law1 j keyed (pushed_list es) (k (all_left _ (all_of (nodes_list row.near)) (all_of (rest_of_row row.far)) all))) (l (all_keyed_up law g keyed (all_of (nodes_list ns)) far)))
