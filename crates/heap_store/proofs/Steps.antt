-- How the steps of a heap compose.
use Rattle.std.proofs.Common.{◌≡◌, ℕ, zero, suc, ◌+◌, ◌-◌, ◌<◌, ◌≤◌, Bool, true, false, cond, ◌||◌, eqb, ⊎_elim, List, [], ◌∷◌, ◌++◌, refl, sym, ap, ◌∙◌, arith, Some, None, drop, not, ◌&&◌, subst}
use Rattle.std.specs.Prelude.{filter, count_by, leb, ltb, slice_set, Option}
use Rattle.std.proofs.lemmas.Grind.{common_steps}
use Rattle.std.proofs.lemmas.Bool.{true≢false, cond-true, cond-false, eq-eqb, ne_eqb, cases_eq, or_left, or_right}
use Rattle.lazy_rec.specs.declared.places.Ref.{Ref}
use Rattle.lazy_rec.specs.declared.records.Rec.{Rec}
use Rattle.lazy_rec.specs.declared.records.Rec.TheVariants.{Reverse}
use Rattle.lazy_rec.specs.declared.states.SuspState.TheVariants.{Unforced}
use Rattle.heap_store.specs.declared.nodes.Node.{Node}
use Rattle.heap_store.specs.declared.claims.HeldClaim.{HeldClaim}
use Rattle.heap_store.specs.Span.{Span}
use Rattle.lazy_rec.specs.Named.{Records, is_pending}
use Rattle.heap_store.specs.World.{World, Keeps, recs, show, SameAttempts}
use Rattle.heap_store.specs.Rows.{store_word}
use Rattle.heap_store.specs.RowCalls.{Stored, hand_stored}
use Rattle.heap_store.specs.Hand.{Hand, KeepsWords, newest_makes, IsInHand, hand_mine, contains, without, claim_places, mark_newest, places_from, hand_put, is_later, credits_at, brings}
use Rattle.lazy_rec.specs.Units.{family_of, paid}
use Rattle.heap_store.specs.Completion.{is_next}
use Rattle.heap_store.specs.Budget.{gain_at}
use Rattle.heap_store.proofs.UnitLaws.{gain_none}
use Rattle.heap_store.specs.View.{View, About, Quiet, SameRows, Fits, Put, Reserved, purse, unforced, is_unforced_node}
use Rattle.heap_store.specs.declared.jobs.Cursor.{Cursor}
use Rattle.lazy_rec.specs.Tests.{is_some_and}
use Rattle.heap_store.specs.Lawful.{walk}
use Rattle.heap_store.specs.Jobs.{Readiness, IsBuildable, most_places, takes_most, IsNewest, IsUnpassed, Filled, first_cells, cursor_fits, cursor_fits_record}
use Rattle.heap_store.specs.Growth.{Grows}
use Rattle.heap_store.proofs.AttemptLaws.{put_attempts}
use Rattle.heap_store.proofs.GrowthLaws.{grows_refl, grows_trans, holds_up, or_up, same_up}
use Rattle.heap_store.proofs.RecordLaws.{walk_up}
use Rattle.heap_store.proofs.ShowLaws.{one_value}

-- words that stay over two steps
pub words_trans : (g h : Hand) (a b c : World) → h.names ≡ g.names → KeepsWords g a b → KeepsWords h b c → KeepsWords g a c
words_trans g h a b c same k l i m = l i (rw same m) ∙ k i m

pub Quiet_refl : (a : View) → Quiet a a
Quiet_refl a = record { grows = grows_refl a.seen; words = λ i m. refl; hand = refl; refusals = refl; about = refl; alone = λ _. refl }

pub alone_of : (a b : View) → b.about ≡ a.about → a.about.alone ≡ true → b.about.alone ≡ true
alone_of a b e h = ap (λ (t : About). t.alone) e ∙ h

pub Quiet_trans : {a b c : View} → Quiet a b → Quiet b c → Quiet a c
Quiet_trans {a} {b} {c} q r = record {
  grows = grows_trans q.grows r.grows;
  words = words_trans a.hand b.hand a.seen b.seen c.seen (ap (λ (h : Hand). h.names) q.hand) q.words r.words;
  hand = r.hand ∙ q.hand;
  refusals = r.refusals ∙ q.refusals;
  about = r.about ∙ q.about;
  alone = λ e. r.alone (alone_of a b q.about e) ∙ q.alone e;
}

pub SameRows_refl : (a : View) → SameRows a a
SameRows_refl a = record { rows = refl; named = refl }

pub SameRows_trans : {a b c : View} → SameRows a b → SameRows b c → SameRows a c
SameRows_trans s t = record { rows = t.rows ∙ s.rows; named = t.named ∙ s.named }

-- ---- words

-- the hand after a word is stored, of a heap that works alone and is bound to no caller
pub stored_alone : {a b : View} {name i value : ℕ} → Stored a b name i value → a.about.alone ≡ true → a.about.caller ≡ None → b.hand ≡ hand_stored (store_word a.seen name i value) a.hand name i value
stored_alone {a} {b} {name} {i} {value} s alone bound = (s.alone alone).3 ∙ ap (λ c. hand_mine c name i (hand_stored (store_word a.seen name i value) a.hand name i value)) bound

-- ---- reserved places

pub contains-filter : (t : ℕ → Bool) (xs : List ℕ) (p : ℕ) → t p ≡ true → contains xs p ≡ true → contains (filter t xs) p ≡ true
contains-filter t [] p pass h = h
contains-filter t (x ∷ xs) p pass h = let ih = contains-filter t xs p pass in grind (arith, common_steps, ih)

outside : (from to p : ℕ) → to ≤ p → not (leb from p && ltb p to) ≡ true
outside from to p h = grind (arith, common_steps)

-- a run of which the next place is filled is still in the hand
pub IsInHand-next : (rs : Records) (hand : Hand) (run : Span) (r : Rec) (spent : ℕ) → IsInHand hand run → IsInHand (hand_put rs hand run.next r spent) (record run { next = run.next + 1 })
IsInHand-next rs hand run r spent h = record { each = λ p low high. contains-filter _ hand.reserved p (outside run.next (run.next + 1) p low) (h.each p (omega arith) high) }

same_test : (a b c x : ℕ) → a ≤ b → b ≤ c → (not (leb b x && ltb x c) && not (leb a x && ltb x b)) ≡ not (leb a x && ltb x c)
same_test a b c x h k = grind (arith, common_steps)

pub without-without : (a b c : ℕ) (xs : List ℕ) → a ≤ b → b ≤ c → without b c (without a b xs) ≡ without a c xs
without-without a b c [] h k = refl
without-without a b c (x ∷ xs) h k = let ih = without-without a b c xs h k in let e = same_test a b c x h k in grind (arith, common_steps, ih, e)

pub without-none : (a : ℕ) (xs : List ℕ) → without a a xs ≡ xs
without-none a [] = refl
without-none a (x ∷ xs) = let ih = without-none a xs in grind (arith, common_steps, ih)

-- marking the newest claim changes no place and no older claim
pub places-mark : (b : Bool) (cs : List HeldClaim) → claim_places (mark_newest b cs) ≡ claim_places cs
places-mark b [] = refl
places-mark b (c ∷ cs) = refl

pub older-mark : (b : Bool) (cs : List HeldClaim) → drop 1 (mark_newest b cs) ≡ drop 1 cs
older-mark b [] = refl
older-mark b (c ∷ cs) = refl

-- ---- filled runs

count-set : (f : Option Node → Bool) (xs : List (Option Node)) (i : ℕ) (v : Option Node) → count_by f (slice_set xs i v) ≤ count_by f xs + 1
count-set f [] i v = grind (arith, common_steps)
count-set f (x ∷ xs) zero v = grind (arith, common_steps)
count-set f (x ∷ xs) (suc i) v = let ih = count-set f xs i v in grind (arith, common_steps, ih)

unforced-show : (w : World) (p : ℕ) (r : Rec) → unforced (show w p r (Unforced 0)) ≤ unforced w + 1
unfolding unforced
unforced-show w p r = count-set is_unforced_node w.nodes p (Some (record { rec = r; state = Unforced 0 }))

pub Filled-none : (a : View) (p : ℕ) → Filled a a p p
Filled-none a p = record {
  grows = grows_refl a.seen;
  words = λ i m. refl;
  hand = rw (without-none p a.hand.reserved) refl;
  claims = refl;
  older = refl;
  refusals = refl;
  about = refl;
  alone = λ _. (SameRows_refl a, refl, omega arith, λ z. refl);
}

pub Filled-quiet : {a b c : View} {from to : ℕ} → Filled a b from to → Quiet b c → Filled a c from to
Filled-quiet {a} {b} {c} {from} {to} f q = record {
  grows = grows_trans f.grows q.grows;
  words = words_trans a.hand b.hand a.seen b.seen c.seen (ap (λ (h : Hand). h.names) f.hand) f.words q.words;
  hand = q.hand ∙ (f.hand ∙ ap (λ (h : Hand). record a.hand { reserved = without from to a.hand.reserved; claims = h.claims; credits = h.credits }) (sym q.hand));
  claims = ap (λ (h : Hand). claim_places h.claims) q.hand ∙ f.claims;
  older = ap (λ (h : Hand). drop 1 h.claims) q.hand ∙ f.older;
  refusals = q.refusals ∙ f.refusals;
  about = q.about ∙ f.about;
  alone = λ e. (let k = f.alone e in rw (q.alone (alone_of a b f.about e)) k);
}

pub quiet_Filled : {a b c : View} {from to : ℕ} → Quiet a b → Filled b c from to → Filled a c from to
quiet_Filled {a} {b} {c} {from} {to} q f = record {
  grows = grows_trans q.grows f.grows;
  words = words_trans a.hand b.hand a.seen b.seen c.seen (ap (λ (h : Hand). h.names) q.hand) q.words f.words;
  hand = f.hand ∙ rw q.hand refl;
  claims = f.claims ∙ ap (λ (h : Hand). claim_places h.claims) q.hand;
  older = f.older ∙ ap (λ (h : Hand). drop 1 h.claims) q.hand;
  refusals = f.refusals ∙ q.refusals;
  about = f.about ∙ q.about;
  alone = λ e. (let k = f.alone (alone_of a b q.about e) in rw (q.alone e) at k);
}

pub Filled-put : {a b c : View} {from to : ℕ} {r : Rec} → from ≤ to → Filled a b from to → Put b c to r → Filled a c from (to + 1)
Filled-put {a} {b} {c} {from} {to} {r} le f q = record {
  grows = grows_trans f.grows q.grows;
  words = words_trans a.hand b.hand a.seen b.seen c.seen (ap (λ (h : Hand). h.names) f.hand) f.words q.words;
  hand = q.hand ∙ put_hand;
  claims = ap (λ (h : Hand). claim_places h.claims) q.hand ∙ places-mark (is_later to r) b.hand.claims ∙ f.claims;
  older = ap (λ (h : Hand). drop 1 h.claims) q.hand ∙ older-mark (is_later to r) b.hand.claims ∙ f.older;
  refusals = q.refusals ∙ f.refusals;
  about = q.about ∙ f.about;
  alone = λ e. (let k = f.alone e in let s = q.alone (alone_of a b f.about e) in
      (record { rows = ap (λ (w : World). w.rows) s.0 ∙ k.0.rows; named = s.2 ∙ k.0.named }, s.1 ∙ k.1, rw s.0 (omega (arith, unforced-show b.seen to r, k.2)), λ z. same_put s.0 z ∙ k.3 z));
}
  where
    same_put : c.seen ≡ show b.seen to r (Unforced 0) → SameAttempts b.seen c.seen
    same_put e = subst (SameAttempts b.seen) (sym e) (put_attempts b.seen to r (subst (Grows b.seen) e q.grows))

    put_hand : hand_put (recs b.seen) b.hand to r (gain_at b.seen to r) ≡ record a.hand { reserved = without from (to + 1) a.hand.reserved; claims = c.hand.claims; credits = c.hand.credits }
    put_hand = rw (ap (λ (h : Hand). h.claims) q.hand, ap (λ (h : Hand). h.credits) q.hand, f.hand, without-without from to (to + 1) a.hand.reserved le (omega arith)) refl

-- a put spends no more than the record shows first, of the credits in hand and of those that the newest claim brings
pub put_spends : {a b : View} {p : ℕ} {r : Rec} → Put a b p r → Fits a p r → purse a ≤ b.hand.credits + gain_at a.seen p r
put_spends {a} {b} {p} {r} q f = let e : b.hand.credits ≡ purse a - gain_at a.seen p r = ap (λ (h : Hand). h.credits) q.hand in omega (arith, e, f.paid)

-- and nothing for a record that shows nothing
pub put_free : {a b : View} {p : ℕ} {r : Rec} → Put a b p r → paid (recs a.seen) p r ≡ [] → purse a ≤ b.hand.credits
put_free {a} {b} {p} {r} q none =
    let e : b.hand.credits ≡ purse a - gain_at a.seen p r = ap (λ (h : Hand). h.credits) q.hand in
    omega (arith, e, gain_none a.seen p r none)

-- what the newest claim brings, in a later world
pub brings_grow : (a b : Records) → Keeps a b → (cs : List HeldClaim) → brings a cs ≤ brings b cs
brings_grow a b keeps [] = omega arith
brings_grow a b keeps (c ∷ cs) = go c.built (a c.place.0) refl
  where
    go : (built : Bool) (o : Option Rec) → a c.place.0 ≡ o → cond built 0 (credits_at a c.place.0) ≤ cond built 0 (credits_at b c.place.0)
    go true o e = omega arith
    go false None e = rw e (omega arith)
    go false (Some r) e = let k = keeps c.place.0 r e in rw (e, k) (omega arith)

-- what the newest claim has brought, once a place of the run is filled
abbrev pub brought : View → Span → Span → ℕ
brought old before run = cond (eqb before.next run.next) 0 (brings (recs old.seen) old.hand.claims)

-- how far a build has come with its run, and how many credits it has spent at most
pub record IsFilling (old now : View) (before run : Span) (spent : ℕ) : Type 0 where
  pub filled : Filled old now before.next run.next
  pub low : before.next ≤ run.next
  pub same_end : run.end ≡ before.end
  pub held : IsInHand now.hand run
  pub fresh : before.next ≡ run.next → now.hand.claims ≡ old.hand.claims
  pub credits : old.hand.credits + brought old before run ≤ now.hand.credits + spent

pub filling_start : (a : View) (run : Span) → IsInHand a.hand run → IsFilling a a run run 0
filling_start a run h =
    let same : brought a run run ≡ 0 = cond-true (eqb run.next run.next) 0 (brings (recs a.seen) a.hand.claims) (eq-eqb run.next run.next refl) in
    record { filled = Filled-none a run.next; low = omega arith; same_end = refl; held = h; fresh = λ _. refl; credits = omega (arith, same) }

pub filling_quiet : {a b c : View} {before run : Span} {spent : ℕ} → IsFilling a b before run spent → Quiet b c → IsFilling a c before run spent
filling_quiet f q = record { filled = Filled-quiet f.filled q; low = f.low; same_end = f.same_end; held = rw q.hand f.held; fresh = λ e. ap (λ (h : Hand). h.claims) q.hand ∙ f.fresh e; credits = rw q.hand f.credits }

-- what was spent and what is at hand cover what the hand had and what its newest claim brings
pub filling_purse : {a b : View} {before run : Span} {spent : ℕ} → IsFilling a b before run spent → a.hand.credits + brings (recs a.seen) a.hand.claims ≤ purse b + spent
filling_purse {a} {b} {before} {run} {spent} f = ⊎_elim first later (cases_eq before.next run.next)
  where
    -- the first place brings what the newest claim brings
    first : before.next ≡ run.next → a.hand.credits + brings (recs a.seen) a.hand.claims ≤ purse b + spent
    first z =
        let none : brought a before run ≡ 0 = cond-true (eqb before.next run.next) 0 (brings (recs a.seen) a.hand.claims) (eq-eqb before.next run.next z) in
        let grown = brings_grow (recs a.seen) (recs b.seen) f.filled.grows.records a.hand.claims in
        let same : brings (recs b.seen) b.hand.claims ≡ brings (recs b.seen) a.hand.claims = ap (brings (recs b.seen)) (f.fresh z) in
        omega (arith, none, grown, same, f.credits)

    later : (before.next ≡ run.next → ⊥) → a.hand.credits + brings (recs a.seen) a.hand.claims ≤ purse b + spent
    later ne =
        let some : brought a before run ≡ brings (recs a.seen) a.hand.claims = cond-false (eqb before.next run.next) 0 (brings (recs a.seen) a.hand.claims) (ne_eqb before.next run.next ne) in
        omega (arith, some, f.credits)

filling_by : {a b c : View} {before run run' : Span} {r : Rec} {spent : ℕ} (more : ℕ) → IsFilling a b before run spent → Put b c run.next r → run' ≡ record run { next = run.next + 1 } → purse b ≤ c.hand.credits + more → IsFilling a c before run' (spent + more)
filling_by {a} {b} {c} {before} {run} {run'} {r} {spent} more f p e k =
    let n = f.low in
    let all : brought a before (record run { next = run.next + 1 }) ≡ brings (recs a.seen) a.hand.claims = cond-false (eqb before.next (run.next + 1)) 0 (brings (recs a.seen) a.hand.claims) (ne_eqb before.next (run.next + 1) (λ z. omega (arith, z, n))) in
    rw e (record {
      filled = Filled-put f.low f.filled p;
      low = omega (arith, n);
      same_end = f.same_end;
      held = rw p.hand (IsInHand-next (recs b.seen) b.hand run r (gain_at b.seen run.next r) f.held);
      fresh = λ z. absurd (omega (arith, z, n));
      credits = omega (arith, all, k, filling_purse f);
    })

-- after a put of a record that shows nothing
pub filling_put : {a b c : View} {before run run' : Span} {r : Rec} {spent : ℕ} → IsFilling a b before run spent → Put b c run.next r → run' ≡ record run { next = run.next + 1 } → paid (recs b.seen) run.next r ≡ [] → IsFilling a c before run' spent
filling_put {a} {b} {c} {before} {run} {run'} {r} {spent} f p e none =
    let k = filling_by 0 f p e (omega (arith, put_free p none)) in
    let same : spent + 0 ≡ spent = omega arith in
    rw same at k

-- after a put of one that shows units
pub filling_paid : {a b c : View} {before run run' : Span} {r : Rec} {spent : ℕ} → IsFilling a b before run spent → Put b c run.next r → run' ≡ record run { next = run.next + 1 } → Fits b run.next r → IsFilling a c before run' (spent + gain_at b.seen run.next r)
filling_paid {a} {b} {c} {before} {run} {run'} {r} f p e fits = filling_by (gain_at b.seen run.next r) f p e (put_spends p fits)

-- ---- the newest claim

-- at first an attempt has passed nothing
pub newest_unpassed : (s : Ref) (cs : List HeldClaim) → IsNewest s cs → IsUnpassed s cs
newest_unpassed s [] k = absurd k
newest_unpassed s (c ∷ cs) k = rw k (refl, refl)

pub unpassed_quiet : {a b : View} → Quiet a b → (s : Ref) → IsUnpassed s a.hand.claims → IsUnpassed s b.hand.claims
unpassed_quiet q s u = rw q.hand u

-- a put of a record that is no later suspension passes nothing
pub unpassed_put : {a b : View} {p : ℕ} {r : Rec} → Put a b p r → is_later p r ≡ false → (s : Ref) → IsUnpassed s a.hand.claims → IsUnpassed s b.hand.claims
unpassed_put {a} {b} {p} {r} q first s u = subst (IsUnpassed s) (sym (ap (λ (h : Hand). h.claims) q.hand)) (by a.hand.claims u)
  where
    or_none : (b : Bool) → b ≡ false → b || false ≡ false
    or_none true e = e
    or_none false e = refl

    by : (cs : List HeldClaim) → IsUnpassed s cs → IsUnpassed s (mark_newest (is_later p r) cs)
    by [] k = absurd k
    by (c ∷ cs) k = rw first (k.0, or_none c.passed k.1)

-- what a suspension makes next may be put while its attempt hasn't passed
pub unpassed_makes : (w : World) (s : Ref) (cs : List HeldClaim) → IsUnpassed s cs → (r t : Rec) → recs w s.0 ≡ Some r → is_pending r ≡ true → is_next w r t ≡ true → newest_makes w cs (family_of s.0 r).0 (suc (family_of s.0 r).1) t ≡ true
unpassed_makes w s [] u r t e p n = absurd u
unpassed_makes w s (c ∷ cs) u r t e p n = rw (u.0, u.1, e, p, n, eq-eqb (family_of s.0 r).0 (family_of s.0 r).0 refl, eq-eqb (suc (family_of s.0 r).1) (suc (family_of s.0 r).1) refl) refl

-- ---- cursors

-- a cursor that fits still fits when the world has grown
pub cursor_up : (a b : World) → Grows a b → (s : ℕ) (c : Cursor) → cursor_fits a s c ≡ true → cursor_fits b s c ≡ true
cursor_up a b g s c = holds_up a b g s (cursor_fits_record a c) (cursor_fits_record b c) (λ r. or_up {x = eqb c.passed 0} same_up (record_up r))
  where
    at_place : (first : ℕ) (o : Option ℕ) → walk a c.passed first ≡ o → is_some_and (eqb c.place.0) o ≡ true → is_some_and (eqb c.place.0) (walk b c.passed first) ≡ true
    at_place first None e h = absurd (true≢false (sym h))
    at_place first (Some q) e h = let k = walk_up a b g c.passed first q e in rw k h

    record_up : (r : Rec) → is_some_and (λ first. is_some_and (eqb c.place.0) (walk a c.passed first)) (first_cells r) ≡ true → is_some_and (λ first. is_some_and (eqb c.place.0) (walk b c.passed first)) (first_cells r) ≡ true
    record_up (Reverse xs left) h = at_place xs.0 (walk a c.passed xs.0) refl h
    record_up _ h = absurd (true≢false (sym h))

-- ---- what a build knows

-- the record of which the work was ready is the one that is seen
pub ready_is : {told : Readiness} {v : View} {s : Ref} {run : Span} (b : IsBuildable told v s run) (r : Rec) → recs v.seen s.0 ≡ Some r → b.ready.rec ≡ r
ready_is {told} {v} {s} {run} b r e = one_value b.ready.rec r (sym (b.base_grows.records s.0 b.ready.rec b.ready.here) ∙ e)

-- the size of the run, where it is fixed
pub ready_places : {told : Readiness} {v : View} {s : Ref} {run : Span} (b : IsBuildable told v s run) (r : Rec) → recs v.seen s.0 ≡ Some r → takes_most r ≡ true → b.nodes ≡ most_places r
ready_places b r e fixed = let same = ready_is b r e in b.ready.exact (ap takes_most same ∙ fixed) ∙ ap most_places same

-- ---- the places of a reserve

pub contains-append_right : (xs ys : List ℕ) (p : ℕ) → contains ys p ≡ true → contains (xs ++ ys) p ≡ true
contains-append_right [] ys p h = h
contains-append_right (x ∷ xs) ys p h = or_right (eqb x p) _ (contains-append_right xs ys p h)

pub contains-places_from : (n k p : ℕ) → n ≤ p → p < n + k → contains (places_from n k) p ≡ true
contains-places_from n zero p low high = absurd (omega arith)
contains-places_from n (suc k) p low high = ⊎_elim
    (λ e. or_left _ _ (eq-eqb n p e))
    (λ ne. or_right (eqb n p) _ (contains-places_from (suc n) k p (omega (arith, low, ne)) (omega (arith, high)))) (cases_eq n p)

-- the places of a run that was reserved are in the hand
pub reserved_held : {old new : View} {k : ℕ} {run : Span} → Reserved old new k run → IsInHand new.hand run
reserved_held {old} {new} {k} {run} r = subst (λ h. IsInHand h run) (sym r.hand) (record { each = λ p low high. contains-append_right old.hand.reserved (places_from run.next k) p (contains-places_from run.next k p low (omega (arith, high, r.size))) })
