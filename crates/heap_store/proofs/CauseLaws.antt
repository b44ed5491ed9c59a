-- Causes stay as worlds grow, and what shows them.
use Rattle.std.proofs.Common.{◌≡◌, ℕ, ◌<◌, ◌≤◌, refl, sym, ap, ◌∙◌, subst, arith, ⊎_elim, ltb, leb, Bool, true, false, cond, not, ◌&&◌, ◌||◌, Option, Some, None, List, [], ◌∷◌, length}
use Rattle.std.specs.Prelude.{option_and_then, count_by, eqb, option_map, slice_set, slice_index_or}
use Rattle.std.specs.List.{list_any}
use Rattle.std.proofs.lemmas.Bool.{true≢false, and_parts, and_from, or_left, or_right, cases_lt, eq-eqb, ltb-true, lt-ltb, leb-true, le-leb, or_cases}
use Rattle.std.proofs.lemmas.List.{get_or-set_other, get_or_past}
use Rattle.std.proofs.lemmas.List.Sums.{sum_by-set}
use Rattle.lazy_rec.specs.declared.records.Rec.{Rec}
use Rattle.lazy_rec.specs.Named.{at_record, is_pending}
use Rattle.lazy_rec.specs.States.{given_up}
use Rattle.heap_store.specs.declared.nodes.Node.{Node}
use Rattle.heap_store.specs.World.{World, recs, node_at, attempts_of, attempts_at, some_record, holds}
use Rattle.heap_store.specs.Growth.{Grows, begun_of}
use Rattle.heap_store.specs.Legal.{IsLegal}
use Rattle.heap_store.specs.Budget.{direct_at, node_count_of, total_nodes}
use Rattle.lazy_rec.specs.Due.{direct}
use Rattle.heap_store.proofs.RowBudget.{row_same}
use Rattle.heap_store.proofs.SumLaws.{sum_more}
use Rattle.heap_store.specs.Rows.{row_at}
use Rattle.heap_store.specs.Rows.{Ending, not_ended, answered, full, memory, no_base}
use Rattle.heap_store.specs.Hand.{contains, all_distinct}
use Rattle.heap_store.specs.Jobs.{most_places}
use Rattle.heap_store.specs.Causes.{was_given_back, given_back_count, may_have_wanted, HasCause}
use Rattle.heap_store.proofs.GrowthLaws.{at_true, or_up}
use Rattle.heap_store.proofs.LawfulLaws.{some_to, some_from, within}
use Rattle.heap_store.proofs.AttemptLaws.{attempts_grow}

-- ---- a suspension at which an attempt was given back

-- what the test of a node says of its place
pub record IsGivenBack (w : World) (p : ℕ) : Type 0 where
  pub rec : Rec
  pub here : recs w p ≡ Some rec
  pub pending : is_pending rec ≡ true
  pub some : 1 ≤ attempts_at w p

pub given_back_to : (w : World) (p : ℕ) → was_given_back (node_at w p) ≡ true → IsGivenBack w p
given_back_to w p h = go (node_at w p) refl h
  where
    go : (o : Option Node) → node_at w p ≡ o → was_given_back o ≡ true → IsGivenBack w p
    go None e k = absurd (true≢false (sym k))
    go (Some n) e k =
        let t = and_parts (is_pending n.rec) (ltb 0 (given_up n.state)) k in
        let count : attempts_at w p ≡ given_up n.state = ap (λ o. attempts_of (option_map (λ (m : Node). m.state) o)) e in
        let some = ltb-true 0 (given_up n.state) t.1 in
        record { rec = n.rec; here = ap (option_map (λ (m : Node). m.rec)) e; pending = t.0; some = omega (arith, some, count) }

pub given_back_from : (w : World) (p : ℕ) → IsGivenBack w p → was_given_back (node_at w p) ≡ true
given_back_from w p g = go (node_at w p) g.here g.some
  where
    go : (o : Option Node) → option_map (λ (m : Node). m.rec) o ≡ Some g.rec → 1 ≤ attempts_of (option_map (λ (m : Node). m.state) o) → was_given_back o ≡ true
    go None e k = cc
    go (Some n) e k = let same : n.rec ≡ g.rec = cc in let p = g.pending in rw same (and_from (is_pending g.rec) (ltb 0 (given_up n.state)) p (lt-ltb 0 (given_up n.state) (omega (arith, k))))

pub given_back_grows : {a b : World} → Grows a b → (p : ℕ) → IsGivenBack a p → IsGivenBack b p
given_back_grows {a} {b} g p h = record { rec = h.rec; here = g.records p h.rec h.here; pending = h.pending; some = omega (arith, h.some, attempts_grow g p) }

-- ---- how many there are

-- what a count adds for an element
one_no : (b : Bool) → b ≡ false → cond {A = ℕ} b 1 0 ≡ 0
one_no b e = rw e refl

one_yes : (b : Bool) → b ≡ true → cond {A = ℕ} b 1 0 ≡ 1
one_yes b e = rw e refl

-- no count of attempts falls, so none of them is lost
pub count_grows : {a b : World} → Grows a b → given_back_count a ≤ given_back_count b
unfolding given_back_count
count_grows {a} {b} g = sum_more (λ o. cond (was_given_back o) 1 0) None refl a.nodes b.nodes (λ p. less (was_given_back (node_at a p)) (was_given_back (node_at b p)) (λ h. given_back_from b p (given_back_grows g p (given_back_to a p h))))
  where
    less : (b c : Bool) → (b ≡ true → c ≡ true) → cond {A = ℕ} b 1 0 ≤ cond {A = ℕ} c 1 0
    less false c up = omega arith
    less true true up = omega arith
    less true false up = absurd (true≢false (sym (up refl)))

-- as the published places do
pub total_nodes_grows : {a b : World} → Grows a b → total_nodes a ≤ total_nodes b
total_nodes_grows {a} {b} g = omega (arith, sum_more node_count_of None refl a.nodes b.nodes (λ p. less p (node_at a p) (node_at b p) (λ r. g.records p r)))
  where
    less : (p : ℕ) (o o' : Option Node) → ((r : Rec) → option_map (λ (n : Node). n.rec) o ≡ Some r → option_map (λ (n : Node). n.rec) o' ≡ Some r) → node_count_of o ≤ node_count_of o'
    less p None o' h = omega arith
    less p (Some n) None h = let z : None ≡ Some n.rec = h n.rec refl in cc
    less p (Some n) (Some m) h = omega arith

-- distinct places that pass a test are no more than there are
places_fit : (test : Option Node → Bool) → test None ≡ false → (nodes : List (Option Node)) (ps : List ℕ) → all_distinct ps ≡ true → ((p : ℕ) → contains ps p ≡ true → test (slice_index_or nodes p None) ≡ true) → length ps ≤ count_by test nodes
places_fit test none nodes [] once h = omega arith
places_fit test none nodes (p ∷ ps) once h =
    let t = and_parts (not (contains ps p)) (all_distinct ps) once in
    let here : test (slice_index_or nodes p None) ≡ true = h p (or_left (eqb p p) (contains ps p) (eq-eqb p p refl)) in
    let rest = places_fit test none (slice_set nodes p None) ps t.1 (λ q k. ap test (get_or-set_other nodes p q None None (apart q k t.0)) ∙ h q (or_right (eqb p q) (contains ps q) k)) in
    omega (arith, rest, sum_by-set (λ x. cond (test x) 1 0) nodes p None None (inside here), one_yes (test (slice_index_or nodes p None)) here, one_no (test None) none)
  where
    apart : (q : ℕ) → contains ps q ≡ true → not (contains ps p) ≡ true → q ≡ p → ⊥
    apart q k absent e = true≢false (sym absent ∙ ap not (ap (contains ps) (sym e) ∙ k))

    inside : test (slice_index_or nodes p None) ≡ true → p < length nodes
    inside k = ⊎_elim (λ l. l) (λ l. absurd (true≢false (sym k ∙ (ap test (get_or_past nodes p None l) ∙ none)))) (cases_lt p (length nodes))

-- so distinct suspensions at which attempts were given back are among them
pub many_given_back : (w : World) (ps : List ℕ) → all_distinct ps ≡ true → ((p : ℕ) → contains ps p ≡ true → IsGivenBack w p) → length ps ≤ given_back_count w
unfolding given_back_count
many_given_back w ps once h = places_fit was_given_back refl w.nodes ps once (λ p k. given_back_from w p (h p k))

-- ---- who wanted places

pub wanted_at : (w : World) (wanted p : ℕ) (g : IsGivenBack w p) → wanted ≤ most_places g.rec → holds (recs w) p (may_have_wanted w wanted p) ≡ true
wanted_at w wanted p g few =
    let e = g.here in
    let fits : leb wanted (most_places g.rec) ≡ true = le-leb wanted (most_places g.rec) few in
    let some : ltb 0 (attempts_at w p) ≡ true = lt-ltb 0 (attempts_at w p) (omega (arith, g.some)) in
    let pending = g.pending in
    ap (at_record false (may_have_wanted w wanted p)) e ∙ and_from (is_pending g.rec && ltb 0 (attempts_at w p)) _ (and_from (is_pending g.rec) _ pending some) fits

one_wanted : (w : World) (wanted p : ℕ) → holds (recs w) p (may_have_wanted w wanted p) ≡ true → some_record w (may_have_wanted w wanted) ≡ true
one_wanted w wanted p h =
    let t = at_true (may_have_wanted w wanted p) (recs w p) h in
    some_from (length w.nodes) (recs w) (may_have_wanted w wanted) p t.0 (within w p t.0 t.1) t.1 t.2

wanted_grows : {a b : World} → Grows a b → (wanted : ℕ) → some_record a (may_have_wanted a wanted) ≡ true → some_record b (may_have_wanted b wanted) ≡ true
wanted_grows {a} {b} g wanted h =
    let t = some_to (length a.nodes) (recs a) (may_have_wanted a wanted) h in
    let k = and_parts (is_pending t.1 && ltb 0 (attempts_at a t.0)) (leb wanted (most_places t.1)) t.3 in
    let l = and_parts (is_pending t.1) (ltb 0 (attempts_at a t.0)) k.0 in
    let some : 1 ≤ attempts_at a t.0 = (let z = ltb-true 0 (attempts_at a t.0) l.1 in omega (arith, z)) in
    one_wanted b wanted t.0 (wanted_at b wanted t.0 (record { rec = t.1; here = g.records t.0 t.1 t.2; pending = l.0; some = omega (arith, some, attempts_grow g t.0) }) (leb-true wanted (most_places t.1) k.1))

-- one of these
pub wanted_among : (w : World) (wanted : ℕ) (ps : List ℕ) → list_any (λ p. holds (recs w) p (may_have_wanted w wanted p)) ps ≡ true → some_record w (may_have_wanted w wanted) ≡ true
wanted_among w wanted [] h = absurd (true≢false (sym h))
wanted_among w wanted (p ∷ ps) h = ⊎_elim
    (λ here. one_wanted w wanted p here)
    (λ later. wanted_among w wanted ps later)
    (or_cases (holds (recs w) p (may_have_wanted w wanted p)) (list_any (λ q. holds (recs w) q (may_have_wanted w wanted q)) ps) h)

-- ---- causes

cause_grows : {a b : World} → Grows a b → (direct direct' : ℕ) → direct ≡ direct' → (e : Ending) → HasCause a direct e → HasCause b direct' e
cause_grows {a} {b} g direct direct' same (full drawn wanted) h = record {
  asked = h.asked;
  wanted_by = subst (λ n. leb wanted n || some_record b (may_have_wanted b wanted) ≡ true) same (or_up (λ k. k) (wanted_grows g wanted) h.wanted_by);
}
cause_grows {a} {b} g direct direct' same memory h = omega (arith, h, count_grows g)
cause_grows g direct direct' same not_ended h = tt
cause_grows g direct direct' same (answered _ _ _) h = tt
cause_grows g direct direct' same no_base h = tt

-- the cause of a row that is begun in both worlds, or in neither
pub cause_kept : {a b : World} → IsLegal a → IsLegal b → Grows a b → (i : ℕ) → option_and_then begun_of (row_at a i) ≡ option_and_then begun_of (row_at b i) → (e : Ending) → HasCause a (direct_at a i) e → HasCause b (direct_at b i) e
cause_kept {a} {b} legal legal' g i same e = cause_grows g (direct_at a i) (direct_at b i) (row_same a b legal legal' g.ended direct i same) e
