-- What a push onto an end of a sequence makes.
use Rattle.std.proofs.Common.{◌≡◌, ℕ, suc, ◌+◌, ◌<◌, ◌≤◌, eqb, leb, refl, sym, ap, ◌∙◌, arith, subst, true, false, not, ◌&&◌, Some, List, [], ◌∷◌, ◌++◌, length}
use Rattle.std.specs.Prelude.{flat_map}
use Rattle.std.proofs.lemmas.Bool.{true≢false, and_parts, and_from, eq-eqb, le-leb, lt-leb, cond-true, cond-false}
use Rattle.std.proofs.lemmas.List.{length-append}
use Rattle.lazy_rec.specs.declared.places.Ref.{Ref}
use Rattle.lazy_rec.specs.declared.places.Item.{Item}
use Rattle.lazy_rec.specs.declared.records.Sort.TheVariants as sorts
use Rattle.lazy_rec.specs.declared.events.Kind.TheVariants as kinds
use Rattle.lazy_rec.specs.declared.events.Op.{Op}
use Rattle.lazy_rec.specs.declared.events.Op.TheVariants as ops
use Rattle.lazy_rec.specs.declared.events.Reply.{Reply}
use Rattle.lazy_rec.specs.declared.events.Reply.TheVariants as replies
use Rattle.lazy_rec.specs.Plain.{effect, most_items}
use Rattle.lazy_rec.specs.Named.{sort_of, same_sort, is_pending}
use Rattle.lazy_rec.specs.Meaning.{means}
use Rattle.heap_store.specs.declared.jobs.EventJob.{EventJob}
use Rattle.heap_store.specs.declared.jobs.After.TheVariants.{End}
use Rattle.heap_store.specs.Span.{Span}
use Rattle.heap_store.specs.World.{World, recs, holds}
use Rattle.heap_store.specs.Completion.{Made}
use Rattle.heap_store.specs.Lawful.{IsLawful, is_of_level, keeps_keys}
use Rattle.heap_store.specs.View.{View, Quiet, Put}
use Rattle.heap_store.specs.Hand.{IsInHand}
use Rattle.heap_store.proofs.GrowthLaws.{at_true, grows_trans}
use Rattle.heap_store.proofs.LawfulLaws.{lawful_names}
use Rattle.heap_store.proofs.MeaningLaws.{means_is, means_kept}
use Rattle.heap_store.proofs.ShowLaws.{one_value}
use Rattle.heap_store.proofs.Steps.{filling_start, filling_put, filling_quiet}
use Rattle.finger_level.specs.declared.few.Weight.{Weight}
use Rattle.finger_level.specs.declared.level.Level.{Level}
use Rattle.finger_level.specs.declared.level.Level.TheVariants as levels
use Rattle.finger_level.specs.declared.level.Side.{Side}
use Rattle.finger_level.specs.declared.level.Side.TheVariants as sides
use Rattle.finger_level.specs.declared.level.Pushed.TheVariants as pushes
use Rattle.finger_level.specs.declared.level.Family.TheVariants.{First}
use Rattle.finger_level.specs.Level.{made_of, places_of, made_places, kept_of, items_of_made}
use Rattle.finger_level.proofs.Keying.{keyed_from}
use Rattle.finger_level.proofs.PushPlaces.{same_places}
use Rattle.finger_level.proofs.Pushing.{both_length}
use Rattle.finger_level.proofs.Values.{level_is}
use Rattle.finger_level.proofs.Tops.{top_well, rest_open, push_all_well}
use Rattle.heap_store.proofs.FillLaws.{Filled_trans}
use Rattle.lazy_rec.specs.declared.records.Rec.TheVariants.{Leaf}
use Rattle.lazy_rec.specs.Numbers.{bits}
use Rattle.heap_store.specs.declared.jobs.Stage.TheVariants.{Start}
use Rattle.heap_store.specs.Legal.{in_order}
use Rattle.heap_store.specs.Stages.{at_start, stage_due, stage_places, due_now, places_now}
use Rattle.heap_store.specs.Jobs.{IsEventBuilt, IsEnd, Filled, outcome}
use Rattle.heap_store.specs.Hand.{contains, brings}
use Rattle.heap_store.specs.View.{IsLawfulView, Fits}
use Rattle.heap_store.proofs.PutLaws.{fits_value, put_names}
use Rattle.heap_store.proofs.RangeLaws.{range_from}
use Rattle.heap_store.proofs.UnitLaws.{free}
use Rattle.finger_level.specs.Reads.{is_tree_rec, is_tree_value}
use Rattle.finger_level.specs.Keyed.{HasKeys, AreKeyed, key_in}
use Rattle.finger_level.specs.Pushes.{push_all, beside, IsPushed}
use Rattle.finger_level.specs.Puts.{IsElement, IsLevel, LevelAsk, LevelPut, Follows}
use Rattle.finger_level.proofs.Levels.{under_level}
use Rattle.finger_apps.specs.Sequence.{pushes_at, push_places, places_for}
use Rattle.finger_apps.proofs.Bases.{BaseRoot, base_up, Given, end_looked, same_built, stays}
use Rattle.heap_store.proofs.Steps.{Quiet_refl}
use Rattle.heap_store.specs.declared.jobs.After.{After}
use Rattle.std.proofs.lemmas.Bool.{ne_eqb}

-- ---- places

push_room : (side : Side) (size : ℕ) (shown : Made) → size < 2147483647 → push_places side size shown ≡ suc (made_places (kept_of shown) (push_all side (0 ∷ []) shown))
push_room side size shown few = cond-false (eqb size most_items) 0 _ (ne_eqb size most_items (λ z. omega (arith, z, few)))

pub full_places : (side : Side) (size : ℕ) (shown : Made) → size ≡ 2147483647 → push_places side size shown ≡ 0
full_places side size shown full = cond-true (eqb size most_items) 0 (suc (made_places (kept_of shown) (push_all side (0 ∷ []) shown))) (eq-eqb size most_items full)

pub op_places : (op : Op) (side : Side) (size : ℕ) (shown below : Made) → pushes_at op side ≡ true → places_for op size shown below ≡ push_places side size shown
op_places ops.Pushl sides.Left size shown below h = refl
op_places ops.Pushr sides.Right size shown below h = refl
op_places _ _ size shown below h = absurd (true≢false (sym h))

pub push_is_end : (op : Op) (side : Side) → pushes_at op side ≡ true → stays op ≡ true
push_is_end ops.Pushl sides.Left h = refl
push_is_end ops.Pushr sides.Right h = refl
push_is_end _ _ h = absurd (true≢false (sym h))

-- what a push may take and spend
pub push_may : (op : Op) (side : Side) (n m : ℕ) → pushes_at op side ≡ true → (stage_places kinds.Seq op n m at_start ≡ 6) × (stage_due kinds.Seq op n m at_start ≡ bits (n + 1))
push_may ops.Pushl sides.Left n m h = (refl, refl)
push_may ops.Pushr sides.Right n m h = (refl, refl)
push_may _ _ n m h = absurd (true≢false (sym h))

pub job_may : (job : EventJob) (side : Side) → job.base.kind ≡ kinds.Seq → pushes_at job.op side ≡ true → job.stage ≡ Start → (places_now job ≡ 6) × (due_now job ≡ bits (job.base.size + 1))
job_may job side kind op stage = rw (kind, stage) (push_may job.op side job.base.size job.other.size op)

-- ---- effects

pub push_longer : (op : Op) (side : Side) (v ws : List ℕ) (x : ℕ) → pushes_at op side ≡ true → length v < 2147483647 → effect op v ws x ≡ (beside side (x ∷ []) v, replies.Ok)
push_longer ops.Pushl sides.Left v ws x h few = cond-true (leb (length (x ∷ v)) 2147483647) (x ∷ v, replies.Ok) (v, replies.TooLong) (le-leb (length (x ∷ v)) 2147483647 (omega (arith, few)))
push_longer ops.Pushr sides.Right v ws x h few = cond-true (leb (length (v ++ x ∷ [])) 2147483647) (v ++ x ∷ [], replies.Ok) (v, replies.TooLong) (le-leb (length (v ++ x ∷ [])) 2147483647 (rw (length-append v (x ∷ [])) (omega (arith, few))))
push_longer _ _ v ws x h few = absurd (true≢false (sym h))

pub push_full : (op : Op) (side : Side) (v ws : List ℕ) (x : ℕ) → pushes_at op side ≡ true → length v ≡ 2147483647 → effect op v ws x ≡ (v, replies.TooLong)
push_full ops.Pushl sides.Left v ws x h full = cond-false (leb (length (x ∷ v)) 2147483647) (x ∷ v, replies.Ok) (v, replies.TooLong) (lt-leb (length (x ∷ v)) 2147483647 (omega (arith, full)))
push_full ops.Pushr sides.Right v ws x h full = cond-false (leb (length (v ++ x ∷ [])) 2147483647) (v ++ x ∷ [], replies.Ok) (v, replies.TooLong) (lt-leb (length (v ++ x ∷ [])) 2147483647 (rw (length-append v (x ∷ [])) (omega (arith, full))))
push_full _ _ v ws x h full = absurd (true≢false (sym h))

-- ---- the end of a push

pub push_end : {w : World} → IsLawful w → (job : EventJob) (side : Side) → job.base.kind ≡ kinds.Seq → pushes_at job.op side ≡ true → BaseRoot w job.base → job.base.size < 2147483647 → (root : ℕ) → holds (recs w) root is_tree_value ≡ true → is_of_level (recs w) root 0 ≡ true → means (recs w) root ≡ beside side (job.arg ∷ []) (means (recs w) job.base.root.0) → keeps_keys kinds.Seq (recs w) root ≡ true → IsEnd w job root (job.base.size + 1) replies.Ok
push_end {w} law job side kind op b room root value level items keys =
    let v = means (recs w) job.base.root.0 in
    let e : outcome w job ≡ (beside side (job.arg ∷ []) v, replies.Ok) = rw kind (push_longer job.op side v (in_order job.other.kind (means (recs w) job.other.root.0)) job.arg op (omega (arith, b.size, room))) in
    let t = at_true is_tree_value (recs w root) value in
    let tv = and_parts (not (is_pending t.0)) (is_tree_rec t.0) t.2 in
    let in_place : in_order job.base.kind (means (recs w) root) ≡ means (recs w) root = rw kind refl in
    let n : length (beside side (job.arg ∷ []) v) ≡ 1 + length v = both_length side (job.arg ∷ []) v in
    record {
      root_is = rw (kind, t.1) (and_from (same_sort (sort_of t.0) sorts.Finger && is_of_level (recs w) root 0) (keeps_keys kinds.Seq (recs w) root) (and_from (same_sort (sort_of t.0) sorts.Finger) (is_of_level (recs w) root 0) tv.1 level) keys);
      value = rw t.1 tv.0;
      means = in_place ∙ (items ∙ sym (ap (λ (o : List ℕ × Reply). o.0) e));
      size_is = (let z = ap (λ (o : List ℕ × Reply). length o.0) e in omega (arith, z, n, b.size));
      reply_is = sym (ap (λ (o : List ℕ × Reply). o.1) e);
      looked = end_looked law job.op replies.Ok job.base.root.0 job.other.size (push_is_end job.op side op) b.value;
    }

-- ---- the level of a push

pub record Leafed (a c : View) (job : EventJob) (run next : Span) (leaf : Ref) : Type 0 where
  pub given : Given a job run
  pub law : IsLawful a.seen
  pub law2 : IsLawful c.seen
  pub few : job.base.size < 2147483647
  pub filled : Filled a c run.next next.next
  pub at : leaf.0 ≡ run.next
  pub next_is : next.next ≡ run.next + 1
  pub end_is : next.end ≡ run.end
  pub held : IsInHand c.hand next
  pub here : recs c.seen leaf.0 ≡ Some (Leaf (record { 0 = job.arg }))
  pub credits : a.hand.credits ≤ c.hand.credits

pub leafed : {a b c : View} {job : EventJob} {run next : Span} {leaf : Ref} → Given a job run → IsLawful a.seen → IsLawful c.seen → job.base.size < 2147483647 → Put a b run.next (Leaf (record { 0 = job.arg })) → next ≡ record run { next = run.next + 1 } → leaf.0 ≡ run.next → Quiet b c → Leafed a c job run next leaf
leafed {a} {b} {c} {job} {run} {next} {leaf} k law law2 few p e at q =
    let f = filling_quiet (filling_put (filling_start a run k.held) p e refl) q in
    record {
      given = k;
      law = law;
      law2 = law2;
      few = few;
      filled = f.filled;
      at = at;
      next_is = ap (λ (s : Span). s.next) e;
      end_is = f.same_end;
      held = f.held;
      here = q.grows.records _ _ (rw at p.here);
      credits = omega (arith, f.credits);
    }

-- the items of the level
leaf_items : {w : World} → IsLawful w → (leaf : ℕ) (x : ℕ) → recs w leaf ≡ Some (Leaf (record { 0 = x })) → means (recs w) leaf ≡ x ∷ []
leaf_items {w} law leaf x e = means_is (recs w) (lawful_names law) leaf _ e

pub record Pushable (a c : View) (job : EventJob) (side : Side) (next : Span) (level : Level) (whole : Weight) : Type 0 where
  pub ask : LevelAsk c next level First whole
  pub parts : IsLevel c.seen 0 next.next (made_of level)
  pub items : items_of_made (means (recs c.seen)) (made_of level) ≡ beside side (job.arg ∷ []) (means (recs c.seen) job.base.root.0)
  pub end_is : next.next + places_of level ≡ next.end

pub pushable : {a c : View} {job : EventJob} {run next : Span} {leaf : Ref} → Leafed a c job run next leaf → (side : Side) → job.base.kind ≡ kinds.Seq → pushes_at job.op side ≡ true → job.stage ≡ Start → (level : Level) → IsPushed c.seen side (pushes.One leaf) job.base.root.0 level → (whole : Weight) → whole.size ≡ job.base.size + 1 → Pushable a c job side next level whole
pushable {a} {c} {job} {run} {next} {leaf} k side kind op stage level m whole size =
    let w = c.seen in
    let g = k.filled.grows in
    let b = base_up k.law g job.base k.given.base in
    let t = at_true is_tree_value (recs w job.base.root.0) b.value in
    let shown : k.given.shown ≡ made_of m.before = one_value _ _ (sym (k.given.shows w g) ∙ m.read.made) in
    let root_low : job.base.root.0 < next.next = omega (arith, k.given.root_low, k.next_is) in
    let x = top_well k.law2 0 next.next job.base.root.0 t.0 (made_of m.before) t.1 (rw t.1 at m.read.made) root_low b.of_level in
    let open_here = rest_open m.before m.read.rests in
    let p = push_all_well side (pushes.One leaf) (made_of m.before) open_here in
    let el : IsElement w 0 next.next leaf.0 = record { under = omega (arith, k.at, k.next_is); sort = rw k.here refl; of_level = level_is k.law2 leaf.0 _ k.here 0 } in
    let items0 : items_of_made (means (recs w)) (made_of level) ≡ beside side (flat_map (means (recs w)) (leaf.0 ∷ [])) (means (recs w) job.base.root.0) = rw m.made (p.items (means (recs w)) ∙ ap (beside side (flat_map (means (recs w)) (leaf.0 ∷ []))) x.items) in
    let items : items_of_made (means (recs w)) (made_of level) ≡ beside side (job.arg ∷ []) (means (recs w) job.base.root.0) = (items0 ∙ ap (λ l. beside side (l ++ []) (means (recs w) job.base.root.0)) (leaf_items k.law2 leaf.0 job.arg k.here)) in
    let count : length (items_of_made (means (recs w)) (made_of level)) ≡ 1 + length (means (recs w) job.base.root.0) = ap length items ∙ both_length side (job.arg ∷ []) (means (recs w) job.base.root.0) in
    let parts : IsLevel w 0 next.next (made_of level) = rw m.made (record {
      elements = p.elements _ (el, tt) x.elements;
      trees = rw p.trees x.trees;
      nodes = rw p.bare.0 tt;
      inner = rw p.bare.1 tt;
      small = (let z = ap (λ md. length (items_of_made (means (recs w)) md)) m.made in omega (arith, z, count, b.size, k.few));
    }) in
    let places : places_of level ≡ made_places (kept_of k.given.shown) (push_all side (0 ∷ []) k.given.shown) = m.places ∙ rw (m.made, shown) (same_places side leaf.0 (kept_of (made_of m.before)) (made_of m.before)) in
    let taken = op_places job.op side job.base.size k.given.shown k.given.below op ∙ push_room side job.base.size k.given.shown k.few in
    let room : run.next + suc (made_places (kept_of k.given.shown) (push_all side (0 ∷ []) k.given.shown)) ≡ run.end = omega (arith, k.given.places, taken) in
    let due = (job_may job side kind op stage).1 in
    let spent : bits whole.size ≡ bits (job.base.size + 1) = ap bits size in
    record {
      ask = record {
        depth = 0;
        parts = parts;
        there = m.there;
        under = m.under next.next (under_level job.base.root.0 next.next (omega (arith, root_low)) m.before m.read.under);
        follows = follows level;
        low = tt;
        counts = omega (arith, size, count, b.size);
        credits = omega (arith, due, spent, k.given.credits, k.credits);
        held = k.held;
        room = omega (arith, places, room, k.next_is, k.end_is);
      };
      parts = parts;
      items = items;
      end_is = omega (arith, places, room, k.next_is, k.end_is);
    }
  where
    follows : (l : Level) → Follows c 0 next.next First l
    follows levels.Empty = tt
    follows (levels.One e) = tt
    follows (levels.Deep l m r) = tt

pub push_ended : {a c n : View} {job : EventJob} {run next z : Span} {leaf : Ref} (side : Side) → job.base.kind ≡ kinds.Seq → pushes_at job.op side ≡ true → job.stage ≡ Start → Leafed a c job run next leaf → (level : Level) (whole : Weight) → whole.size ≡ job.base.size + 1 → whole.key.0 ≡ 0 → IsPushed c.seen side (pushes.One leaf) job.base.root.0 level → IsLawful n.seen → (root : Ref) → LevelPut c n next z First level root.0 → (HasKeys false c.seen job.base.root.0 → AreKeyed false c.seen (leaf.0 ∷ []) → whole.key.0 ≡ key_in false (items_of_made (means (recs c.seen)) (made_of level)) → HasKeys false n.seen root.0) → IsEventBuilt a n job run z (End root (job.base.size + 1) replies.Ok)
push_ended {a} {c} {n} {job} {run} {next} {z} {leaf} side kind op stage k level whole size none m law3 root l made =
    let p = pushable k side kind op stage level m whole size in
    let g = l.filled.grows in
    let b = base_up k.law (grows_trans k.filled.grows g) job.base k.given.base in
    let end : z.next ≡ run.end = omega (arith, l.next, p.end_is, k.end_is) in
    let base = at_true is_tree_value (recs c.seen job.base.root.0) (base_up k.law k.filled.grows job.base k.given.base).value in
    let f = Filled_trans (omega (arith, k.next_is)) (omega (arith, l.next)) k.filled l.filled in
    record {
      filled = subst (λ m. Filled a n run.next m) end f;
      spent = omega (arith, end, l.end, k.end_is);
      made = push_end law3 job side kind op b k.few root.0 l.value (l.of_level 0 p.parts)
          (l.items ∙ (p.items ∙ ap (beside side (job.arg ∷ [])) (means_kept (recs c.seen) (recs n.seen) (lawful_names k.law2) g.records job.base.root.0 (base.0, base.1))))
          (made (base_up k.law k.filled.grows job.base k.given.base).keys (keyed_from k.law2 false leaf.0 _ k.here refl tt, tt) none);
      credits = (let due = (job_may job side kind op stage).1 in let count = ap bits (ap length p.items ∙ both_length side (job.arg ∷ []) (means (recs c.seen) job.base.root.0)) in let more = ap bits more_one in omega (arith, l.credits, k.credits, due, count, more));
    }
  where
    -- the length of the longer list
    more_one : 1 + length (means (recs c.seen) job.base.root.0) ≡ job.base.size + 1
    more_one = let b = base_up k.law k.filled.grows job.base k.given.base in omega (arith, b.size)

-- a push that makes something takes a place
pub push_taken : {v : View} {job : EventJob} {run : Span} → Given v job run → (side : Side) → pushes_at job.op side ≡ true → job.base.size < 2147483647 → run.next < run.end
push_taken {v} {job} k side op few = let taken = op_places job.op side job.base.size k.shown k.below op ∙ push_room side job.base.size k.shown few in omega (arith, k.places, taken)

-- and one onto a full sequence none
pub full_built : {v : View} {job : EventJob} {run : Span} → IsLawful v.seen → Given v job run → job.base.kind ≡ kinds.Seq → (side : Side) → pushes_at job.op side ≡ true → job.base.size ≡ 2147483647 → (result : After) → result ≡ End job.base.root job.base.size replies.TooLong → IsEventBuilt v v job run run result
full_built {v} {job} law k kind side op full result is =
    same_built (Quiet_refl v) law kind (push_is_end job.op side op) k (λ m b. op_places job.op side job.base.size m b op ∙ full_places side job.base.size m full) replies.TooLong (push_full job.op side _ _ job.arg op (omega (arith, full, k.base.size))) result is

-- ---- the leaf

pub fits_leaf : {v : View} → IsLawfulView v → (p : ℕ) → contains v.hand.reserved p ≡ true → (item : Item) → item.0 < 18446744073709551616 → Fits v p (Leaf item)
fits_leaf {v} law p held item small = fits_value p (Leaf item) refl (record {
  range = range_from (Leaf item) (omega arith, (small, tt)) refl;
  names = put_names law p held (Leaf item) tt;
  sizes = refl;
  unmixed = refl;
  bank_queue = refl;
  rt_queue = refl;
  heap = refl;
  cat = refl;
  finger = refl;
  heights = refl;
}) (free v.seen p (Leaf item) (v.hand.credits + brings (recs v.seen) v.hand.claims) refl)
