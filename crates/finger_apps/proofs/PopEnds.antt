-- What a pop of an end of a sequence needs, and what it makes.
use Rattle.std.proofs.Common.{◌≡◌, ℕ, zero, suc, ◌+◌, ◌-◌, ◌<◌, ◌≤◌, eqb, refl, sym, ap, ◌∙◌, arith, subst, Bool, true, false, not, ◌&&◌, ◌||◌, Option, Some, None, List, [], ◌∷◌, ◌++◌, length}
use Rattle.std.specs.Prelude.{cond, flat_map}
use Rattle.std.specs.List.{AllByRecursion}
use Rattle.std.proofs.lemmas.List.{length-append}
use Rattle.std.proofs.lemmas.Bool.{true≢false, and_parts, and_from, or_left, or_right, eqb-true, eq-eqb}
use Rattle.lazy_rec.specs.declared.places.Ref.{Ref}
use Rattle.lazy_rec.specs.declared.records.Rec.{Rec}
use Rattle.lazy_rec.specs.declared.records.Rec.TheVariants.{TEmpty, Leaf, Single, Deep}
use Rattle.lazy_rec.specs.declared.records.Sort.TheVariants as sorts
use Rattle.lazy_rec.specs.declared.events.Kind.TheVariants as kinds
use Rattle.lazy_rec.specs.declared.events.Op.{Op}
use Rattle.lazy_rec.specs.declared.events.Op.TheVariants as ops
use Rattle.lazy_rec.specs.declared.events.Reply.{Reply}
use Rattle.lazy_rec.specs.declared.events.Reply.TheVariants as replies
use Rattle.lazy_rec.specs.Plain.{effect, has_item, without_last}
use Rattle.lazy_rec.specs.Named.{sort_of, same_sort, is_pending}
use Rattle.lazy_rec.specs.Meaning.{means}
use Rattle.lazy_rec.specs.Numbers.{bits}
use Rattle.lazy_rec.specs.Due.{may_force}
use Rattle.heap_store.specs.declared.versions.Version.{Version}
use Rattle.heap_store.specs.declared.jobs.EventJob.{EventJob}
use Rattle.heap_store.specs.declared.jobs.After.{After}
use Rattle.heap_store.specs.declared.jobs.After.TheVariants.{End}
use Rattle.heap_store.specs.declared.jobs.Prep.{Prep}
use Rattle.heap_store.specs.declared.jobs.Prep.TheVariants.{Need, Ready}
use Rattle.heap_store.specs.declared.jobs.Stage.TheVariants.{Start}
use Rattle.heap_store.specs.Span.{Span}
use Rattle.heap_store.specs.World.{World, recs, holds, is_value}
use Rattle.heap_store.specs.Completion as top
use Rattle.heap_store.specs.Completion.{Made, elements}
use Rattle.heap_store.specs.Lawful.{IsLawful, is_of_level, keeps_keys}
use Rattle.heap_store.specs.Legal.{in_order}
use Rattle.heap_store.specs.LookedAt.{has_looked, has_one}
use Rattle.heap_store.specs.Stages.{at_start, stage_due, stage_places, due_now, places_now}
use Rattle.heap_store.specs.View.{View, Quiet}
use Rattle.heap_store.specs.Jobs.{may_seek, other_seeks, may_stage_seek, Filled, IsEventBuilt, IsEventNeed, EventPrepared, IsEnd, outcome, reaches, is_reached}
use Rattle.heap_store.proofs.EventEnds.{built_same}
use Rattle.heap_store.proofs.GrowthLaws.{at_true, grows_refl, sorts_agree}
use Rattle.heap_store.proofs.LawfulLaws.{lawful_names, within}
use Rattle.heap_store.proofs.MeaningLaws.{means_is, means_kept}
use Rattle.heap_store.proofs.MadeLaws.{top_at_up}
use Rattle.heap_store.proofs.ReadLaws.{holds_at}
use Rattle.heap_store.proofs.ShowLaws.{one_value}
use Rattle.heap_store.proofs.Steps.{Quiet_refl, quiet_Filled}
use Rattle.heap_store.proofs.ValueLaws.{place_waits, value_place_is, value_self}
use Rattle.heap_store.specs.Hand.{Hand}
use Rattle.finger_level.specs.declared.few.Few.{Few}
use Rattle.finger_level.specs.declared.few.Few.TheVariants as few
use Rattle.finger_level.specs.declared.few.Weight.{Weight}
use Rattle.finger_level.specs.declared.level.Level.{Level}
use Rattle.finger_level.specs.declared.level.Level.TheVariants as levels
use Rattle.finger_level.specs.declared.level.Side.{Side}
use Rattle.finger_level.specs.declared.level.Side.TheVariants as sides
use Rattle.finger_level.specs.declared.level.Family.TheVariants.{First}
use Rattle.finger_level.specs.Few.{few_list}
use Rattle.finger_level.specs.Level.{made_of, middle_items, places_of, items_of_made}
use Rattle.finger_level.specs.Reads.{is_element, is_tree_rec, is_tree_value}
use Rattle.finger_level.specs.Keyed.{HasKeys, KeyedLevel, key_in}
use Rattle.finger_level.specs.Pushes.{beside}
use Rattle.finger_level.specs.Puts.{IsElement, LevelAsk, LevelPut, Follows}
use Rattle.finger_level.specs.Pops.{both_ends, is_single, drawn_places, drawn_middle, pop_places, IsFrom, IsRootAt, IsRest, IsToDraw, PopReady, PopPrepared, shown_at}
use Rattle.finger_level.proofs.Funded.{finger_funded, more_bits}
use Rattle.finger_level.specs.NearPops.{PoppedAsk, PoppedPut}
use Rattle.finger_level.proofs.Draws.{deep_digits}
use Rattle.finger_level.proofs.Found.{digit_elements}
use Rattle.finger_level.proofs.Levels.{split_length}
use Rattle.finger_level.proofs.Popping.{few_there, found_up}
use Rattle.finger_level.proofs.Pushing.{both_length}
use Rattle.finger_level.proofs.Tops.{top_well}
use Rattle.finger_level.proofs.Values.{element_size}
use Rattle.finger_tree.specs.Work.{is_finger_work}
use Rattle.finger_apps.specs.Sequence.{is_leaf, pops_at, places_for, drawn_for, IsReadyEvent}
use Rattle.finger_apps.proofs.SequenceEnds.{leaf_at}
use Rattle.finger_apps.proofs.Bases.{BaseRoot, base_up, DrawnRoot, drawn_root, FromGiven, Given, given_later, shown_up}

-- ---- the operations

pub op_pops : (op : Op) (side : Side) (size : ℕ) (shown below : Made) → pops_at op side ≡ true → places_for op size shown below ≡ pop_places side shown below
op_pops ops.Popl sides.Left size shown below h = refl
op_pops ops.Popr sides.Right size shown below h = refl
op_pops _ _ size shown below h = absurd (true≢false (sym h))

pub op_draws : (op : Op) (side : Side) (shown : Made) → pops_at op side ≡ true → drawn_for op shown ≡ drawn_middle side shown
op_draws ops.Popl sides.Left shown h = refl
op_draws ops.Popr sides.Right shown h = refl
op_draws _ _ shown h = absurd (true≢false (sym h))

pop_may : (op : Op) (side : Side) (n m : ℕ) → pops_at op side ≡ true → (stage_places kinds.Seq op n m at_start ≡ 6) × (stage_due kinds.Seq op n m at_start ≡ bits n)
pop_may ops.Popl sides.Left n m h = (refl, refl)
pop_may ops.Popr sides.Right n m h = (refl, refl)
pop_may _ _ n m h = absurd (true≢false (sym h))

-- what a pop may take and spend
job_may : (job : EventJob) (side : Side) → job.base.kind ≡ kinds.Seq → pops_at job.op side ≡ true → job.stage ≡ Start → (places_now job ≡ 6) × (due_now job ≡ bits job.base.size)
job_may job side kind op stage = rw (kind, stage) (pop_may job.op side job.base.size job.other.size op)

-- ---- what a prepare answers

pub pop_ready : {w : World} (job : EventJob) (side : Side) → job.base.kind ≡ kinds.Seq → pops_at job.op side ≡ true → job.stage ≡ Start → (nodes : ℕ) → PopReady w side job.base.root.0 nodes → IsReadyEvent w job nodes × (nodes ≤ places_now job)
pop_ready job side kind op stage nodes k =
    let may = (job_may job side kind op stage).0 in (
      record {
        shown = k.shown;
        here = k.here;
        from = k.from;
        below = k.below;
        drawn = λ m h. k.drawn m (sym (op_draws job.op side k.shown op) ∙ h);
        places = k.places ∙ sym (op_pops job.op side job.base.size k.shown k.below op);
      },
      omega (arith, k.most, may),
    )

-- a place reaches itself
self_reached : (n : ℕ) (w : World) (p : ℕ) → reaches n w p p ≡ true
self_reached zero w p = eq-eqb p p refl
self_reached (suc n) w p = or_left (eqb p p) _ (eq-eqb p p refl)

-- and the middle of its tree
middle_reached : (w : World) (n root : ℕ) (left middle right : Ref) (z : ℕ) (k : _) → recs w root ≡ Some (Deep left middle right z k) → reaches (suc n) w root middle.0 ≡ true
middle_reached w n root left middle right z k e =
    or_right (eqb root middle.0) _ (rw (value_self w root _ e refl) (or_right (reaches n w left.0 middle.0) _ (or_left (reaches n w middle.0 middle.0) _ (self_reached n w middle.0))))

pub pop_need : {w : World} → IsLawful w → (job : EventJob) (side : Side) → job.base.kind ≡ kinds.Seq → pops_at job.op side ≡ true → BaseRoot w job.base → (m : ℕ) → IsToDraw w side job.base.root.0 m → IsEventNeed is_finger_work w job m
pop_need {w} law job side kind op b m k =
    let t = at_true is_tree_value (recs w job.base.root.0) b.value in
    let d = drawn_root {w = w} side job.base.root.0 k.shown m t.0 t.1 (rw t.1 at k.shows) k.middle in
    let s = at_true is_tree_rec (recs w m) k.sort in
    let waits = place_waits w m (s.0, s.1) k.waits in
    let pend : is_pending s.0 ≡ true = holds_at (recs w) m is_pending s.0 waits.pending s.1 in
    record {
      work = rw s.1 (and_from (is_pending s.0) _ pend (and_from (is_pending s.0) (is_tree_rec s.0) pend s.2));
      sought = or_left (holds (recs w) job.base.root.0 (may_seek w job.op job.base.root.0 m) || other_seeks w job m) (may_stage_seek w m job.stage) (or_left (holds (recs w) job.base.root.0 (may_seek w job.op job.base.root.0 m)) (other_seeks w job m) (rw d.here (sought job.op op d (and_from (reaches (length w.nodes) w job.base.root.0 m) (holds (recs w) m (λ r. is_pending r && same_sort (sort_of r) sorts.Finger)) (reached d) (rw s.1 (and_from (is_pending s.0) (same_sort (sort_of s.0) sorts.Finger) pend s.2))))));
      not_done = waits.undone;
      forces = rw kind (forces job.op side op);
      funded = rw s.1 (finger_funded law m s.0 s.1 pend s.2);
    }
  where
    reached : DrawnRoot w side job.base.root.0 m → reaches (length w.nodes) w job.base.root.0 m ≡ true
    reached d = by (length w.nodes) (within w job.base.root.0 _ d.here)
      where
        by : (n : ℕ) → job.base.root.0 < n → reaches n w job.base.root.0 m ≡ true
        by zero low = absurd (omega (arith, low))
        by (suc n) low = rw (← d.is) (middle_reached w n job.base.root.0 d.left d.middle d.right d.size d.key d.here)

    sought : (op : Op) → pops_at op side ≡ true → (d : DrawnRoot w side job.base.root.0 m) → is_reached w m job.base.root.0 ≡ true → may_seek w op job.base.root.0 m (Deep d.left d.middle d.right d.size d.key) ≡ true
    sought ops.Popl h d r = r
    sought ops.Popr h d r = r
    sought _ h d r = absurd (not_pop h)
      where
        not_pop : false ≡ true → ⊥
        not_pop h = true≢false (sym h)

    forces : (op : Op) (side : Side) → pops_at op side ≡ true → may_force kinds.Seq op ≡ true
    forces ops.Popl sides.Left h = refl
    forces ops.Popr sides.Right h = refl
    forces _ _ h = absurd (true≢false (sym h))

pub pop_answer : {w : World} → IsLawful w → (job : EventJob) (side : Side) → job.base.kind ≡ kinds.Seq → pops_at job.op side ≡ true → job.stage ≡ Start → BaseRoot w job.base → (result : Prep) → PopPrepared w side job.base.root.0 result → EventPrepared is_finger_work IsReadyEvent w job result
pop_answer law job side kind op stage b (Need m) k = pop_need law job side kind op b m.0 k
pop_answer law job side kind op stage b (Ready nodes) k = pop_ready job side kind op stage nodes k

-- ---- effects

last_gone : (xs : List ℕ) (x : ℕ) → without_last (xs ++ x ∷ []) ≡ xs
last_gone [] x = refl
last_gone (y ∷ []) x = refl
last_gone (y ∷ z ∷ zs) x = ap (λ l. y ∷ l) (last_gone (z ∷ zs) x)

has_one_more : (xs : List ℕ) (x : ℕ) → has_item (xs ++ x ∷ []) ≡ true
has_one_more [] x = refl
has_one_more (y ∷ ys) x = refl

pop_shorter : (op : Op) (side : Side) (x : ℕ) (rest ws : List ℕ) (a : ℕ) → pops_at op side ≡ true → effect op (beside side (x ∷ []) rest) ws a ≡ (rest, replies.Ok)
pop_shorter ops.Popl sides.Left x rest ws a h = refl
pop_shorter ops.Popr sides.Right x rest ws a h = rw (has_one_more rest x, last_gone rest x) refl
pop_shorter _ _ x rest ws a h = absurd (true≢false (sym h))

pop_none : (op : Op) (side : Side) (ws : List ℕ) (a : ℕ) → pops_at op side ≡ true → effect op [] ws a ≡ ([], replies.Empty)
pop_none ops.Popl sides.Left ws a h = refl
pop_none ops.Popr sides.Right ws a h = refl
pop_none _ _ ws a h = absurd (true≢false (sym h))

-- ---- what a pop looks at

one_single : (xs : List ℕ) → eqb (length xs) 1 ≡ true → is_single xs ≡ true
one_single [] h = absurd (let z = eqb-true 0 1 h in omega (arith, z))
one_single (x ∷ []) h = refl
one_single (x ∷ y ∷ ys) h = absurd (let z = eqb-true (suc (suc (length ys))) 1 h in omega (arith, z))

where_one : (b x : Bool) → (b ≡ true → x ≡ true) → cond b x true ≡ true
where_one true x h = h refl
where_one false x h = refl

pub pop_looked : {w : World} → IsLawful w → (op : Op) (side : Side) → pops_at op side ≡ true → (root other from : ℕ) (shown below : Made) → holds (recs w) root is_tree_value ≡ true → shown_at w root ≡ Some shown → ((m : ℕ) → drawn_middle side shown ≡ Some m → IsFrom w m from below) → has_looked w op replies.Ok root other ≡ true
pop_looked {w} law op side pops root other from shown below value shows known = let t = at_true is_tree_value (recs w root) value in by op side pops t.0 t.1 t.2 known
  where
    drawn : (side : Side) (left middle right : Ref) (z : ℕ) (k : _) → recs w root ≡ Some (Deep left middle right z k) → ((m : ℕ) → drawn_middle side shown ≡ Some m → IsFrom w m from below) → is_single (both_ends side (elements w left.0) (elements w right.0)).0 ≡ true → is_value w middle.0 ≡ true
    drawn side left middle right z k e known one =
        let h : Some (top.deep (elements w left.0) (top.tree (Some middle.0)) (elements w right.0)) ≡ Some shown = rw e at shows in
        let same : top.deep (elements w left.0) (top.tree (Some middle.0)) (elements w right.0) ≡ shown = one_value _ _ h in
        let here : drawn_middle side shown ≡ Some middle.0 = rw (← same) (ap (λ b. cond b (Some middle.0) None) one) in
        (value_place_is law middle.0 from (known middle.0 here).place).known

    by : (op : Op) (side : Side) → pops_at op side ≡ true → (r : Rec) → recs w root ≡ Some r → is_tree_value r ≡ true → ((m : ℕ) → drawn_middle side shown ≡ Some m → IsFrom w m from below) → has_looked w op replies.Ok root other ≡ true
    by ops.Popl sides.Left h TEmpty e v known = rw e refl
    by ops.Popl sides.Left h (Single x z k) e v known = rw e refl
    by ops.Popl sides.Left h (Deep left middle right z k) e v known = rw e (where_one (has_one w left.0) (is_value w middle.0) (λ o. drawn sides.Left left middle right z k e known (one_single (elements w left.0) o)))
    by ops.Popl sides.Left h _ e v known = absurd (true≢false (sym v))
    by ops.Popr sides.Right h TEmpty e v known = rw e refl
    by ops.Popr sides.Right h (Single x z k) e v known = rw e refl
    by ops.Popr sides.Right h (Deep left middle right z k) e v known = rw e (where_one (has_one w right.0) (is_value w middle.0) (λ o. drawn sides.Right left middle right z k e known (one_single (elements w right.0) o)))
    by ops.Popr sides.Right h _ e v known = absurd (true≢false (sym v))
    by _ _ h r e v known = absurd (true≢false (sym h))

-- ---- the level that is left

-- the places of a pop don't depend on a middle that isn't drawn up
same_pop : (w : World) (side : Side) (root : ℕ) (shown a b : Made) (r : Rec) → recs w root ≡ Some r → is_tree_value r ≡ true → shown_at w root ≡ Some shown → ((m : ℕ) → drawn_middle side shown ≡ Some m → a ≡ b) → pop_places side shown a ≡ pop_places side shown b
same_pop w side root shown a b TEmpty e v shows h = let same : top.empty ≡ shown = one_value _ _ (rw e at shows) in rw (← same) refl
same_pop w side root shown a b (Single x z k) e v shows h = let same : top.one x.0 ≡ shown = one_value _ _ (rw e at shows) in rw (← same) refl
same_pop w side root shown a b (Deep left middle right z k) e v shows h =
    let same : top.deep (elements w left.0) (top.tree (Some middle.0)) (elements w right.0) ≡ shown = one_value _ _ (rw e at shows) in
    rw (← same) (by (is_single (both_ends side (elements w left.0) (elements w right.0)).0) refl (λ o. h middle.0 (rw (← same) (ap (λ c. cond c (Some middle.0) None) o))))
  where
    by : (c : Bool) → is_single (both_ends side (elements w left.0) (elements w right.0)).0 ≡ c → (is_single (both_ends side (elements w left.0) (elements w right.0)).0 ≡ true → a ≡ b) → cond (is_single (both_ends side (elements w left.0) (elements w right.0)).0) (drawn_places side (both_ends side (elements w left.0) (elements w right.0)).1 a) 2 ≡ cond (is_single (both_ends side (elements w left.0) (elements w right.0)).0) (drawn_places side (both_ends side (elements w left.0) (elements w right.0)).1 b) 2
    by true c g = rw (g c) refl
    by false c g = rw c refl
same_pop w side root shown a b _ e v shows h = absurd (true≢false (sym v))

-- what is known of the level that is left
pub record Popping (c : View) (job : EventJob) (side : Side) (run : Span) (level : Level) (from : ℕ) : Type 0 where
  pub at : IsRootAt c.seen 0 run.next job.base.root.0 from
  pub item : ℕ
  pub items : means (recs c.seen) job.base.root.0 ≡ beside side (item ∷ []) (items_of_made (means (recs c.seen)) (made_of level))
  pub counts : job.base.size ≡ 1 + length (items_of_made (means (recs c.seen)) (made_of level))
  pub places : run.next + places_of level ≡ run.end

pub popping : {c : View} {job : EventJob} {run : Span} → IsLawful c.seen → Given c job run → (side : Side) → pops_at job.op side ≡ true → (e : ℕ) (level : Level) (r : IsRest c.seen side job.base.root.0 e level) → Popping c job side run level r.from
popping {c} {job} {run} law k side op e level r =
    let w = c.seen in
    let t = at_true is_tree_value (recs w job.base.root.0) k.base.value in
    let shown : k.shown ≡ r.shown = one_value _ _ (sym (k.shows w (grows_refl w)) ∙ r.shows) in
    let draws : (m : ℕ) → drawn_middle side r.shown ≡ Some m → FromGiven w m k.from k.below run.next = λ m h. k.drawn m (rw shown (op_draws job.op side r.shown op ∙ h)) in
    let from_low : r.from < run.next = low draws (drawn_middle side r.shown) refl in
    let at : IsRootAt w 0 run.next job.base.root.0 r.from = record { of_level = k.base.of_level; root_low = k.root_low; from_low = from_low } in
    let leaf = leaf_of e run.next (r.element 0 run.next at) in
    let items : means (recs w) job.base.root.0 ≡ beside side (leaf.0 ∷ []) (items_of_made (means (recs w)) (made_of level)) = r.items 0 run.next at ∙ ap (λ xs. beside side xs (items_of_made (means (recs w)) (made_of level))) leaf.1 in
    let count = ap length items ∙ both_length side (leaf.0 ∷ []) (items_of_made (means (recs w)) (made_of level)) in
    let below : (m : ℕ) → drawn_middle side r.shown ≡ Some m → r.below ≡ k.below = λ m h. one_value _ _ (sym (r.from_middle m h).shows ∙ ((draws m h).at w (grows_refl w)).shows) in
    let places : places_of level ≡ places_for job.op job.base.size k.shown k.below = rw shown (r.places ∙ (same_pop w side job.base.root.0 r.shown r.below k.below t.0 t.1 t.2 r.shows below ∙ sym (op_pops job.op side job.base.size r.shown k.below op))) in
    record { at = at; item = leaf.0; items = items; counts = k.base.size ∙ count; places = omega (arith, places, k.places) }
  where
    -- the value of a middle that is drawn up was known in time
    low : ((m : ℕ) → drawn_middle side r.shown ≡ Some m → FromGiven c.seen m k.from k.below run.next) → (o : Option ℕ) → drawn_middle side r.shown ≡ o → r.from < run.next
    low draws None h = let z = r.from_root h in omega (arith, z, k.root_low)
    low draws (Some m) h =
        let f = draws m h in
        let same : r.from ≡ k.from = one_value _ _ (sym (r.from_middle m h).place ∙ (f.at c.seen (grows_refl c.seen)).place) in
        omega (arith, same, f.low)

    leaf_of : (e limit : ℕ) → IsElement c.seen 0 limit e → (x : ℕ) × (means (recs c.seen) e ≡ x ∷ [])
    leaf_of e limit h = let l = at_true is_leaf (recs c.seen e) (leaf_at law e h.sort h.of_level) in one l.0 l.1 l.2
      where
        one : (q : Rec) → recs c.seen e ≡ Some q → is_leaf q ≡ true → (x : ℕ) × (means (recs c.seen) e ≡ x ∷ [])
        one (Leaf x) here h = (x.0, means_is (recs c.seen) (lawful_names law) e _ here)
        one _ here h = absurd (true≢false (sym h))

pub pop_ask : {c : View} {job : EventJob} {run : Span} → Given c job run → (side : Side) → job.base.kind ≡ kinds.Seq → pops_at job.op side ≡ true → job.stage ≡ Start → (e : ℕ) (level : Level) (r : IsRest c.seen side job.base.root.0 e level) → Popping c job side run level r.from → (whole : Weight) → whole.size ≡ job.base.size - 1 → LevelAsk c run level First whole
pop_ask {c} {job} {run} k side kind op stage e level r p whole size =
    let due = (job_may job side kind op stage).1 in
    let less = more_bits whole.size job.base.size (omega (arith, size)) in
    record {
      depth = 0;
      parts = r.parts 0 run.next p.at;
      there = r.there;
      under = r.under run.next k.root_low p.at.from_low;
      follows = follows level;
      low = tt;
      counts = omega (arith, size, p.counts);
      credits = omega (arith, due, less, k.credits);
      held = k.held;
      room = omega (arith, p.places);
    }
  where
    follows : (l : Level) → Follows c 0 run.next First l
    follows levels.Empty = tt
    follows (levels.One e) = tt
    follows (levels.Deep l m r) = tt

-- ---- the end of a pop

pub pop_ended : {a c n : View} {job : EventJob} {run z : Span} (side : Side) → job.base.kind ≡ kinds.Seq → pops_at job.op side ≡ true → job.stage ≡ Start → IsLawful c.seen → IsLawful n.seen → Quiet a c → Given c job run → (e : ℕ) (level : Level) (r : IsRest c.seen side job.base.root.0 e level) → Popping c job side run level r.from → (whole : Weight) → whole.size ≡ job.base.size - 1 → whole.key.0 ≡ 0 → (root : Ref) → LevelPut c n run z First level root.0 → (KeyedLevel false c.seen level → whole.key.0 ≡ key_in false (items_of_made (means (recs c.seen)) (made_of level)) → HasKeys false n.seen root.0) → IsEventBuilt a n job run z (End root whole.size replies.Ok)
pop_ended {a} {c} {n} {job} {run} {z} side kind op stage law law2 quiet k e level r p whole size none root l made =
    let g = l.filled.grows in
    let b = base_up law g job.base k.base in
    let end : z.next ≡ run.end = omega (arith, l.next, p.places) in
    let base = at_true is_tree_value (recs c.seen job.base.root.0) k.base.value in
    let own = means_kept (recs c.seen) (recs n.seen) (lawful_names law) g.records job.base.root.0 (base.0, base.1) in
    let items : means (recs n.seen) job.base.root.0 ≡ beside side (p.item ∷ []) (means (recs n.seen) root.0) = sym own ∙ (p.items ∙ ap (beside side (p.item ∷ [])) (sym l.items)) in
    let keys = made (r.keyed false k.base.keys) none in
    let f = subst (λ m. Filled c n run.next m) end l.filled in
    let same : c.hand.credits ≡ a.hand.credits = ap (λ (h : Hand). h.credits) quiet.hand in
    let due = (job_may job side kind op stage).1 in
    let less = more_bits (length (items_of_made (means (recs c.seen)) (made_of level))) job.base.size (omega (arith, p.counts)) in
    record {
      filled = quiet_Filled quiet f;
      spent = end ∙ sym l.end;
      made = ended b p.item items root.0 l.value (l.of_level 0 (r.parts 0 run.next p.at)) keys;
      credits = omega (arith, l.credits, same, due, less);
    }
  where
    ended : BaseRoot n.seen job.base → (x : ℕ) → means (recs n.seen) job.base.root.0 ≡ beside side (x ∷ []) (means (recs n.seen) root.0) → (q : ℕ) → holds (recs n.seen) root.0 is_tree_value ≡ true → is_of_level (recs n.seen) root.0 0 ≡ true → HasKeys false n.seen root.0 → IsEnd n.seen job root.0 whole.size replies.Ok
    ended b x items q value level keys =
        let rest = means (recs n.seen) root.0 in
        let o : outcome n.seen job ≡ (rest, replies.Ok) = rw (kind, items) (pop_shorter job.op side x rest (in_order job.other.kind (means (recs n.seen) job.other.root.0)) job.arg op) in
        let t = at_true is_tree_value (recs n.seen root.0) value in
        let tv = and_parts (not (is_pending t.0)) (is_tree_rec t.0) t.2 in
        let in_place : in_order job.base.kind rest ≡ rest = rw kind refl in
        let count = ap length items ∙ both_length side (x ∷ []) rest in
        let base = at_true is_tree_value (recs c.seen job.base.root.0) k.base.value in
        record {
          root_is = rw (kind, t.1) (and_from (same_sort (sort_of t.0) sorts.Finger && is_of_level (recs n.seen) root.0 0) (keeps_keys kinds.Seq (recs n.seen) root.0) (and_from (same_sort (sort_of t.0) sorts.Finger) (is_of_level (recs n.seen) root.0 0) tv.1 level) keys);
          value = rw t.1 tv.0;
          means = in_place ∙ sym (ap (λ (o : List ℕ × Reply). o.0) o);
          size_is = (let y = ap (λ (o : List ℕ × Reply). length o.0) o in omega (arith, y, count, b.size, size));
          reply_is = sym (ap (λ (o : List ℕ × Reply). o.1) o);
          looked = pop_looked law2 job.op side op job.base.root.0 job.other.size r.from r.shown r.below b.value (shown_up (lawful_names law) l.filled.grows job.base.root.0 r.shown base.0 base.1 r.shows) (λ m h. from_up (r.from_middle m h));
        }
      where
        from_up : {m : ℕ} → IsFrom c.seen m r.from r.below → IsFrom n.seen m r.from r.below
        from_up {m} h = record { place = found_up law l.filled.grows m r.from h.place; shows = top_at_up c.seen n.seen (lawful_names law) l.filled.grows m r.below h.shows }

-- ---- an empty sequence

-- a base of no items is the empty tree
pub empty_shown : {w : World} → IsLawful w → (v : Version) → BaseRoot w v → v.size ≡ 0 → shown_at w v.root.0 ≡ Some top.empty
empty_shown {w} law v b none = let t = at_true is_tree_value (recs w v.root.0) b.value in by t.0 t.1 t.2
  where
    some : (limit e : ℕ) → IsElement w 0 limit e → 1 ≤ length (means (recs w) e)
    some limit e k = let t = at_true is_element (recs w e) k.sort in element_size law e 0 t.0 t.1 (sorts_agree (sort_of t.0) sorts.Element t.2) k.of_level

    first : (limit : ℕ) (f : Few) (rest : List ℕ) → AllByRecursion (IsElement w 0 limit) (few_list f ++ rest) → 1 ≤ length (flat_map (means (recs w)) (few_list f))
    first limit (few.One a) rest h = let s = some limit a.0 h.0 in let l = length-append (means (recs w) a.0) [] in omega (arith, s, l)
    first limit (few.Two a b) rest h = let s = some limit a.0 h.0 in let l = length-append (means (recs w) a.0) (flat_map (means (recs w)) (b.0 ∷ [])) in omega (arith, s, l)
    first limit (few.Three a b c) rest h = let s = some limit a.0 h.0 in let l = length-append (means (recs w) a.0) (flat_map (means (recs w)) (b.0 ∷ c.0 ∷ [])) in omega (arith, s, l)
    first limit (few.Four a b c d) rest h = let s = some limit a.0 h.0 in let l = length-append (means (recs w) a.0) (flat_map (means (recs w)) (b.0 ∷ c.0 ∷ d.0 ∷ [])) in omega (arith, s, l)

    by : (r : Rec) → recs w v.root.0 ≡ Some r → is_tree_value r ≡ true → shown_at w v.root.0 ≡ Some top.empty
    by TEmpty e s = rw e refl
    by (Single x z k) e s =
        let t = top_well law 0 (suc v.root.0) v.root.0 _ (top.one x.0) e refl (omega arith) b.of_level in
        let one = some (suc v.root.0) x.0 t.elements.0 in
        let items = ap length t.items in
        absurd (omega (arith, one, items, b.size, none))
    by (Deep left middle right z k) e s =
        let t = top_well law 0 (suc v.root.0) v.root.0 _ (top.deep (elements w left.0) (top.tree (Some middle.0)) (elements w right.0)) e refl (omega arith) b.of_level in
        let f = few_there law left.0 (deep_digits law v.root.0 left middle right z k e sides.Left left right refl).0 in
        let es = digit_elements w left.0 f.0 f.1 in
        let one = first (suc v.root.0) f.0 (elements w right.0) (rw es at t.elements) in
        let all : length (items_of_made (means (recs w)) (top.deep (few_list f.0) (top.tree (Some middle.0)) (elements w right.0))) ≡ length (means (recs w) v.root.0) = rw es at (ap length t.items) in
        let parts = split_length (flat_map (means (recs w)) (few_list f.0)) (middle_items (means (recs w)) (top.tree (Some middle.0))) (flat_map (means (recs w)) (elements w right.0)) in
        absurd (omega (arith, one, all, parts, b.size, none))
    by _ e s = absurd (true≢false (sym s))

-- the empty tree has no items
pub empty_items : {w : World} → IsLawful w → (v : Version) → BaseRoot w v → shown_at w v.root.0 ≡ Some top.empty → means (recs w) v.root.0 ≡ []
empty_items {w} law v b empty = let t = at_true is_tree_value (recs w v.root.0) b.value in by t.0 t.1 t.2
  where
    by : (r : Rec) → recs w v.root.0 ≡ Some r → is_tree_value r ≡ true → means (recs w) v.root.0 ≡ []
    by TEmpty e s = means_is (recs w) (lawful_names law) v.root.0 TEmpty e
    by (Single x z q) e s = absurd (let h = one_value _ _ (rw e at empty) in cc)
    by (Deep l m r z q) e s = absurd (let h = one_value _ _ (rw e at empty) in cc)
    by _ e s = absurd (true≢false (sym s))

-- a pop of an empty sequence
pub none_built : {c : View} {job : EventJob} {run : Span} (side : Side) → job.base.kind ≡ kinds.Seq → pops_at job.op side ≡ true → IsLawful c.seen → Given c job run → job.base.size ≡ 0 → (result : After) → result ≡ End job.base.root job.base.size replies.Empty → IsEventBuilt c c job run run result
none_built {c} {job} {run} side kind op law k none result is =
    let shown : k.shown ≡ top.empty = one_value _ _ (sym (k.shows c.seen (grows_refl c.seen)) ∙ empty) in
    let taken : places_for job.op job.base.size k.shown k.below ≡ 0 = op_pops job.op side job.base.size k.shown k.below op ∙ ap (λ m. pop_places side m k.below) shown in
    built_same (Quiet_refl c) (omega (arith, taken, k.places)) _ replies.Empty ended result is
  where
    empty : shown_at c.seen job.base.root.0 ≡ Some top.empty
    empty = empty_shown law job.base k.base none

    no_items : means (recs c.seen) job.base.root.0 ≡ []
    no_items = empty_items law job.base k.base empty

    ended : IsEnd c.seen job job.base.root.0 job.base.size replies.Empty
    ended =
        let o : outcome c.seen job ≡ ([], replies.Empty) = rw (kind, no_items) (pop_none job.op side (in_order job.other.kind (means (recs c.seen) job.other.root.0)) job.arg op) in
        let base = at_true is_tree_value (recs c.seen job.base.root.0) k.base.value in
        let in_place : in_order job.base.kind (means (recs c.seen) job.base.root.0) ≡ [] = rw (kind, no_items) refl in
        record {
          root_is = k.root;
          value = rw base.1 (and_parts (not (is_pending base.0)) (is_tree_rec base.0) base.2).0;
          means = in_place ∙ sym (ap (λ (o : List ℕ × Reply). o.0) o);
          size_is = (let y = ap (λ (o : List ℕ × Reply). length o.0) o in let n = ap length no_items in omega (arith, y, n, k.base.size));
          reply_is = sym (ap (λ (o : List ℕ × Reply). o.1) o);
          looked = looked job.op side op;
        }
      where
        looked : (op : Op) (side : Side) → pops_at op side ≡ true → has_looked c.seen op replies.Empty job.base.root.0 job.other.size ≡ true
        looked ops.Popl sides.Left h = refl
        looked ops.Popr sides.Right h = refl
        looked _ _ h = absurd (true≢false (sym h))

-- a pop for which all is known needs nothing
pub none_waits : {c : View} {job : EventJob} {run : Span} (side : Side) → pops_at job.op side ≡ true → IsLawful c.seen → Given c job run → (m : ℕ) → IsToDraw c.seen side job.base.root.0 m → ⊥
none_waits {c} {job} {run} side op law k m r =
    let shown : k.shown ≡ r.shown = one_value _ _ (sym (k.shows c.seen (grows_refl c.seen)) ∙ r.shows) in
    let f = (k.drawn m (rw shown (op_draws job.op side r.shown op ∙ r.middle))).at c.seen (grows_refl c.seen) in
    let z : None ≡ Some k.from = sym r.waits ∙ f.place in
    cc

-- ---- what is asked of the put

pub popped_ask : {v : View} {job : EventJob} {run : Span} → IsLawful v.seen → Given v job run → (side : Side) → job.base.kind ≡ kinds.Seq → pops_at job.op side ≡ true → job.stage ≡ Start → (whole : Weight) → 0 < job.base.size → whole.size ≡ job.base.size - 1 → PoppedAsk v run side job.base.root.0 First whole
popped_ask {v} {job} {run} law k side kind op stage whole some size = record {
  some = λ c q law2 empty. (let z = ap length (empty_items law2 job.base (given_later q law k).base empty) in let b = (given_later q law k).base in omega (arith, z, some, b.size));
  known = λ c q law2 m r. none_waits side op law2 (given_later q law k) m r;
  rest = λ c q law2 e level r. (let n = given_later q law k in pop_ask n side kind op stage e level r (popping law2 n side op e level r) whole size);
}

pub popped_ended : {v n : View} {job : EventJob} {run z : Span} (side : Side) → job.base.kind ≡ kinds.Seq → pops_at job.op side ≡ true → job.stage ≡ Start → IsLawful v.seen → IsLawful n.seen → Given v job run → (whole : Weight) → whole.size ≡ job.base.size - 1 → whole.key.0 ≡ 0 → (root : Ref) → PoppedPut v n run z side job.base.root.0 First false whole root.0 → IsEventBuilt v n job run z (End root whole.size replies.Ok)
popped_ended side kind op stage law law2 k whole size none root p =
    let n = given_later p.quiet law k in
    pop_ended side kind op stage p.law law2 p.quiet n p.element p.level p.rest (popping p.law n side op p.element p.level p.rest) whole size none root p.put (λ _ e. p.keys k.base.keys e)
