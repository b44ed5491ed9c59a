-- One event run in order, from its name to its end.
use Rattle.std.proofs.Common.{◌≡◌, ℕ, ◌+◌, ◌<◌, ◌≤◌, refl, sym, ap, ◌∙◌, subst, arith, Bool, true, false, cond, ◌&&◌, ◌||◌, eqb, leb, ltb, Option, Some, None, Result, Ok, Err, List, [], ◌∷◌}
use Rattle.std.specs.List.{list_all, list_any}
use Rattle.std.proofs.lemmas.Bool.{true≢false, and_parts, and_from, or_left, or_right, eq-eqb, eqb-true, le-leb, leb-true, lt-ltb, ltb-true}
use Rattle.lazy_rec.specs.Named.{Records}
use Rattle.lazy_rec.specs.declared.events.Kind.{Kind}
use Rattle.lazy_rec.specs.declared.events.Op.{Op}
use Rattle.lazy_rec.specs.declared.events.Op.TheVariants as ops
use Rattle.lazy_rec.specs.declared.events.Event.{Event}
use Rattle.lazy_rec.specs.Tests.{is_some_and}
use Rattle.lazy_rec.specs.Kinds.{bases, uses_base, uses_other, uses_argument, belongs, same_kind, kind_number}
use Rattle.lazy_rec.specs.History.{event_name, is_smaller, has_kind_of_base, is_of_its_kind, is_named_well, new_kind, kind_made, kind_of}
use Rattle.lazy_rec.proofs.HistoryLaws.{smaller-lt, smaller-pos, base_passes, other_passes, kind-if_base, trim_parts}
use Rattle.heap_store.specs.declared.versions.Version.{Version}
use Rattle.heap_store.specs.World.{World, recs}
use Rattle.heap_store.specs.Rows.{Row, NamedRows, Ending, not_ended, answered, full, memory, no_base, is_ended, is_refused, row_at, version_at, is_answered, is_given_up, is_ended_at, words_at, word_at, events_of}
use Rattle.heap_store.specs.Growth.{Grows}
use Rattle.heap_store.specs.Budget.{direct_at}
use Rattle.heap_store.specs.Causes.{HasCause}
use Rattle.heap_store.specs.Legal.{IsHistory, IsLegal}
use Rattle.heap_store.specs.View.{View, About, Quiet}
use Rattle.heap_store.specs.RowCalls.{NameDrawn}
use Rattle.heap_store.proofs.HistoryLaws.{version_there}
use Rattle.heap_store.proofs.RowBudget.{version_kind}
use Rattle.heap_store.proofs.WordLaws.{zero_unended}
use Rattle.heap_store.proofs.Steps.{contains-append_right}
use Rattle.kind_table.specs.Kinds.{is_built}
use Rattle.version_book.specs.declared.answers.Entry.{Entry}
use Rattle.version_book.specs.declared.answers.Refuse.{Refuse}
use Rattle.version_book.specs.declared.answers.Refuse.TheVariants as refusals
use Rattle.version_book.specs.declared.answers.Look.{Look}
use Rattle.version_book.specs.declared.answers.Look.TheVariants.{Found, NotYet, GivenUp}
use Rattle.version_book.specs.Closed.{IsRefusal}
use Rattle.version_book.specs.Pass.{Pass, pass_of}
use Rattle.version_book.specs.RowSteps.{IsNextEvent, HasLostBase, ended_row, skipped_row}
use Rattle.version_book.specs.Calls.{HasSeen, MayExtend, IsOutOfNames, Called, CalledAlone, Ended, IsFound, Shown, ending_told, is_named, event_of_call, new_event}
use Rattle.version_book.specs.Solo.{IsSolo, UsesEnded, HasTicket, AreBases, ComesNext, Ran}

-- ---- a name

pub ticket : {p q : Pass} {name : ℕ} → IsSolo p → NameDrawn p.view q.view name → q.caller ≡ p.caller → HasTicket p q name
ticket {p} {q} {name} solo n caller =
    let a = n.alone solo.alone in
    record {
      next = a.2;
      seen = a.0;
      about = n.about;
      caller = caller;
      named = a.3;
      drawn = rw n.hand (contains-append_right p.view.hand.names (name ∷ []) name (or_left _ _ (eq-eqb name name refl)));
    }

pub out_of_names : (p : Pass) (w : View) (refuse : Refuse) → IsSolo p → p.view.named < p.view.about.rows → IsOutOfNames p.view w refuse → ⊥
out_of_names p w (refusals.NamesFull none) solo room n = omega (arith, n.full, (n.alone solo.alone).1, room)
out_of_names p w (refusals.StoreFull refusal) solo room n = n
out_of_names p w refusals.NoMemory solo room n = n

-- passes are the same by their views and callers
pub same_parts : (v w : View) (a b : ℕ) → v ≡ w → a ≡ b → pass_of v a ≡ pass_of w b
same_parts v w a b e f = rw (e, f) refl

-- a quiet call leaves all as it was
pub same_pass : {p q : Pass} → IsSolo p → Quiet p.view q.view → q.caller ≡ p.caller → q ≡ p
same_pass {p} {q} solo quiet caller = same_parts q.view p.view q.caller p.caller (quiet.alone solo.alone) caller

-- ---- the versions that an event uses

-- an ended row that hasn't the version is given up, where a second version is sought of a split alone
lost_base : (rs : Records) (rows : NamedRows) → IsHistory rs rows → (n : ℕ) → is_ended_at rows (event_name n) ≡ true → is_named_well (events_of rows) n ≡ true → version_at rows n ≡ None → is_given_up rows n ≡ true
lost_base rs rows legal n ended named none = go (rows (event_name n)) refl
  where
    there : is_answered rows n ≡ true → ⊥
    there h = true≢false (sym h ∙ ap (is_some_and (λ (_ : Version). true)) none)

    from : (r : Row) (t : Ending) → rows (event_name n) ≡ Some r → r.ending ≡ t → is_given_up rows n ≡ true
    from r not_ended e f = absurd (true≢false (sym ended ∙ (ap (is_some_and (λ (x : Row). is_ended x.ending)) e ∙ ap is_ended f)))
    from r (answered told v w) e f = absurd (there (version_there rs rows legal n (record { row = r; told = told; first = v; second = w; here = e; ending_is = f; ended = ap is_ended f }) named))
    from r (full drawn wanted) e f = ap (is_some_and (λ (x : Row). is_refused x.ending)) e ∙ ap is_refused f
    from r memory e f = ap (is_some_and (λ (x : Row). is_refused x.ending)) e ∙ ap is_refused f
    from r no_base e f = ap (is_some_and (λ (x : Row). is_refused x.ending)) e ∙ ap is_refused f

    go : (o : Option Row) → rows (event_name n) ≡ o → is_given_up rows n ≡ true
    go None e = absurd (true≢false (sym ended ∙ ap (is_some_and (λ (x : Row). is_ended x.ending)) e))
    go (Some r) e = from r r.ending e refl

-- a row whose end word is 0 hasn't ended
pub not_ended_yet : (w : World) (i : ℕ) → word_at w i 5 ≡ 0 → is_ended_at (row_at w) i ≡ true → ⊥
not_ended_yet w i none h = true≢false (sym h ∙ zero_unended i (words_at w i) none)

-- what is looked up and not found is given up
pub not_found : (w : World) (n : ℕ) (look : Look) → IsLegal w → is_ended_at (row_at w) (event_name n) ≡ true → is_named_well (events_of (row_at w)) n ≡ true → Shown w n look → ((v : Version) → look ≡ Found v → ⊥) → is_given_up (row_at w) n ≡ true
not_found w n (Found v) legal ended named shown other = absurd (other v refl)
not_found w n NotYet legal ended named shown other = absurd (not_ended_yet w (event_name n) shown ended)
not_found w n GivenUp legal ended named shown other = lost_base (recs w) (row_at w) legal n ended named shown.none

lost_by_base : (f : ℕ → Bool) (e : Event) → uses_base e.op ≡ true → f e.base ≡ true → list_any f (bases e) ≡ true
lost_by_base f e u h = by (uses_base e.op) u
  where
    by : (b : Bool) → b ≡ true → list_any f (cond b (e.base ∷ cond (uses_other e.op) (e.other ∷ []) []) []) ≡ true
    by true z = or_left _ _ h
    by false z = absurd (true≢false (sym z))

lost_by_other : (f : ℕ → Bool) (e : Event) → uses_base e.op ≡ true → uses_other e.op ≡ true → f e.other ≡ true → list_any f (bases e) ≡ true
lost_by_other f e u o h = by (uses_base e.op) (uses_other e.op) u o
  where
    by : (b c : Bool) → b ≡ true → c ≡ true → list_any f (cond b (e.base ∷ cond c (e.other ∷ []) []) []) ≡ true
    by true true z y = or_right (f e.base) _ (or_left _ _ h)
    by b false z y = absurd (true≢false (sym y))
    by false c z y = absurd (true≢false (sym z))

-- a test of each that follows from two others
pub all_up : (s f g : ℕ → Bool) (xs : List ℕ) → ((v : ℕ) → s v ≡ true → f v ≡ true → g v ≡ true) → list_all s xs ≡ true → list_all f xs ≡ true → list_all g xs ≡ true
all_up s f g [] up h k = refl
all_up s f g (x ∷ xs) up h k =
    let p = and_parts (s x) (list_all s xs) h in
    let q = and_parts (f x) (list_all f xs) k in
    and_from (g x) (list_all g xs) (up x p.0 q.0) (all_up s f g xs up p.1 q.1)

module _ (p : Pass) (e : Event) (uses : UsesEnded p e) where
  in_range : (n : ℕ) → ltb 0 (event_name n) && leb (event_name n) p.view.about.rows ≡ true → (1 ≤ event_name n) × (event_name n ≤ p.view.about.rows)
  in_range n h = let k = and_parts (ltb 0 (event_name n)) (leb (event_name n) p.view.about.rows) h in (ltb-true 0 (event_name n) k.0, leb-true (event_name n) p.view.about.rows k.1)

  pub base_range : (1 ≤ event_name e.base) × (event_name e.base ≤ p.view.about.rows)
  base_range = in_range e.base (base_passes (λ n. ltb 0 (event_name n) && leb (event_name n) p.view.about.rows) e uses.low uses.based)

  pub other_range : uses_other e.op ≡ true → (1 ≤ event_name e.other) × (event_name e.other ≤ p.view.about.rows)
  other_range o = in_range e.other (other_passes (λ n. ltb 0 (event_name n) && leb (event_name n) p.view.about.rows) e uses.low o)

  pub lost_base_of : (look : Look) → IsLegal p.view.seen → Shown p.view.seen e.base look → ((v : Version) → look ≡ Found v → ⊥) → HasLostBase p.view e
  lost_base_of look legal shown other =
      lost_by_base (is_given_up (row_at p.view.seen)) e uses.based
      (not_found p.view.seen e.base look legal (base_passes (λ n. is_ended_at (row_at p.view.seen) (event_name n)) e uses.ended uses.based) (base_passes (is_named_well (events_of (row_at p.view.seen))) e uses.seconds uses.based) shown other)

  pub lost_other_of : (look : Look) → IsLegal p.view.seen → uses_other e.op ≡ true → Shown p.view.seen e.other look → ((v : Version) → look ≡ Found v → ⊥) → HasLostBase p.view e
  lost_other_of look legal o shown other =
      lost_by_other (is_given_up (row_at p.view.seen)) e uses.based o
      (not_found p.view.seen e.other look legal (other_passes (λ n. is_ended_at (row_at p.view.seen) (event_name n)) e uses.ended o) (other_passes (is_named_well (events_of (row_at p.view.seen))) e uses.seconds o) shown other)

-- ---- the event, in the pass that has its ticket

four : (x y : Op) (b c o n a m : ℕ) → x ≡ y → b ≡ c → o ≡ n → a ≡ m → ◌≡◌ {A = Event} (record { op = x; base = b; other = o; arg = a }) (record { op = y; base = c; other = n; arg = m })
four x y b c o n a m e f g h = rw (e, f, g, h) refl

-- a version that was found is known by its own number
found_seen : {w : World} {n : ℕ} {v : Version} → IsFound w n v → version_at (row_at w) v.name ≡ Some v
found_seen {w} {n} {v} f = ap (version_at (row_at w)) f.number ∙ f.here

-- what comes next and starts from a version starts from versions whose rows have ended
pub uses_ended : (p : Pass) (e : Event) → ComesNext p e → uses_base e.op ≡ true → UsesEnded p e
uses_ended p e next u = record {
  based = u;
  low = all_up (is_smaller (p.view.named + 1)) (is_smaller (p.view.named + 1)) (λ n. ltb 0 (event_name n) && leb (event_name n) p.view.about.rows) (bases e) (λ n s _. low n s) next.smaller next.smaller;
  ended = next.ended;
  seconds = next.seconds;
}
  where
    low : (n : ℕ) → is_smaller (p.view.named + 1) n ≡ true → ltb 0 (event_name n) && leb (event_name n) p.view.about.rows ≡ true
    low n s =
        let less = smaller-lt (p.view.named + 1) n s in
        and_from (ltb 0 (event_name n)) _ (lt-ltb 0 (event_name n) (smaller-pos (p.view.named + 1) n s)) (le-leb (event_name n) p.view.about.rows (omega (arith, less, next.room)))

-- and its operation is built for the base's kind
pub built_on : (p : Pass) (e : Event) (base : Version) → IsLegal p.view.seen → ComesNext p e → uses_base e.op ≡ true → IsFound p.view.seen e.base base → is_built base.kind e.op ≡ true
built_on p e base legal next u found =
    let k : kind_made (kind_of (events_of (row_at p.view.seen))) (Some e) ≡ Some base.kind = kind-if_base e.op (kind_of (events_of (row_at p.view.seen)) (event_name e.base)) u ∙ version_kind p.view.seen legal e.base base found.here in
    rw k at next.built

module _ (p q : Pass) (name : ℕ) (e : Event) (solo : IsSolo p) (next : ComesNext p e) (t : HasTicket p q name) where
  rows_same : row_at q.view.seen ≡ row_at p.view.seen
  rows_same = ap row_at t.seen

  plan_none : q.view.about.plan ≡ None
  plan_none = rw t.about solo.plan

  pub no_plan : {X : Type 0} (events : List Event) → q.view.about.plan ≡ Some events → X
  no_plan events h = let z : None ≡ Some events = sym plan_none ∙ h in cc

  pub solo_still : IsSolo q
  solo_still = record { alone = rw t.about solo.alone; plan = plan_none; caller = t.caller ∙ solo.caller }

  pub next_event : IsNextEvent q.view name e
  next_event = record { trim = next.trim; smaller = rw t.next next.smaller; argument = next.argument; planned = λ events h. no_plan events h }

  pub built_new : (kind : Kind) → e.op ≡ ops.New kind → is_built kind (ops.New kind) ≡ true
  built_new kind op = subst (λ o. is_some_and (λ k. is_built k o) (new_kind o (kind_of (events_of (row_at p.view.seen)) (event_name e.base))) ≡ true) op next.built

  -- the event of `new` has nothing but its kind
  pub new_is : (kind : Kind) → e.op ≡ ops.New kind → e ≡ new_event kind
  new_is kind op =
      let trim = trim_parts e next.trim in
      by (eqb-true e.base 0 (subst (λ o. uses_base o || eqb e.base 0 ≡ true) op trim.base)) (eqb-true e.other 0 (subst (λ o. uses_other o || eqb e.other 0 ≡ true) op trim.other)) (eqb-true e.arg 0 (subst (λ o. uses_argument o || eqb e.arg 0 ≡ true) op trim.argument))
    where
      by : e.base ≡ 0 → e.other ≡ 0 → e.arg ≡ 0 → e ≡ new_event kind
      by b o a = four e.op (ops.New kind) e.base 0 e.other 0 e.arg 0 op b o a

  module _ (legal : IsLegal q.view.seen) (u : uses_base e.op ≡ true) (base other : Version) (found : AreBases p e base other) where
    pub bases_still : AreBases q e base other
    bases_still = record { base_is = rw t.seen found.base_is; other_is = λ o. rw t.seen (found.other_is o); alone = found.alone }

    other_seen : HasSeen q other
    other_seen = by (uses_other e.op) refl
      where
        by : (o : Bool) → uses_other e.op ≡ o → HasSeen q other
        by true o = found_seen (bases_still.other_is o)
        by false o = subst (λ (v : Version). HasSeen q v) (sym (bases_still.alone o)) (found_seen bases_still.base_is)

    base_seen : HasSeen q base
    base_seen = found_seen bases_still.base_is

    older : (n : ℕ) → is_smaller (p.view.named + 1) n ≡ true → event_name n < name
    older n s = rw t.next (smaller-lt (p.view.named + 1) n s)

    other_older : event_name other.name < name
    other_older = by (uses_other e.op) refl
      where
        by : (o : Bool) → uses_other e.op ≡ o → event_name other.name < name
        by true o = rw (bases_still.other_is o).number (older e.other (other_passes (is_smaller (p.view.named + 1)) e next.smaller o))
        by false o = rw (bases_still.alone o, bases_still.base_is.number) (older e.base (base_passes (is_smaller (p.view.named + 1)) e next.smaller u))

    kinds_here : is_of_its_kind (events_of (row_at q.view.seen)) e ≡ true
    kinds_here = subst (λ (rs : NamedRows). is_of_its_kind (events_of rs) e ≡ true) (sym rows_same) next.kinds

    base_kind : kind_of (events_of (row_at q.view.seen)) (event_name e.base) ≡ Some base.kind
    base_kind = version_kind q.view.seen legal e.base base bases_still.base_is.here

    kinds_same : same_kind base.kind other.kind ≡ true
    kinds_same = by (uses_other e.op) refl
      where
        by : (o : Bool) → uses_other e.op ≡ o → same_kind base.kind other.kind ≡ true
        by false o = rw (bases_still.alone o) (eq-eqb _ _ refl)
        by true o =
            let other_kind : kind_of (events_of (row_at q.view.seen)) (event_name e.other) ≡ Some other.kind = version_kind q.view.seen legal e.other other (bases_still.other_is o).here in
            let h = rw (other_kind, base_kind) at (other_passes (has_kind_of_base (events_of (row_at q.view.seen)) e) e kinds_here o) in
            eq-eqb _ _ (sym (eqb-true (kind_number other.kind) (kind_number base.kind) (and_parts (belongs other.kind e.op) (same_kind other.kind base.kind) h).1))

    pub may_extend : MayExtend q name e.op base other e.arg
    may_extend = record {
      drawn = t.drawn;
      built = built_on p e base (subst IsLegal t.seen legal) next u found.base_is;
      based = u;
      kinds = kinds_same;
      base_seen = base_seen;
      other_seen = other_seen;
      base_older = rw bases_still.base_is.number (older e.base (base_passes (is_smaller (p.view.named + 1)) e next.smaller u));
      other_older = other_older;
      alone = bases_still.alone;
      no_argument = λ a. (let h = (trim_parts e next.trim).argument in eqb-true e.arg 0 (rw a at h));
      planned = λ events h. no_plan events h;
    }

    -- the event of the call is this one
    pub event_same : event_of_call e.op base other e.arg ≡ e
    event_same = by bases_still.base_is.number others
      where
        others : cond (uses_other e.op) other.name 0 ≡ e.other
        others = of (uses_other e.op) refl
          where
            of : (o : Bool) → uses_other e.op ≡ o → cond (uses_other e.op) other.name 0 ≡ e.other
            of true o = ap (λ c. cond c other.name 0) o ∙ (bases_still.other_is o).number
            of false o = ap (λ c. cond c other.name 0) o ∙ (let h = (trim_parts e next.trim).other in sym (eqb-true e.other 0 (rw o at h)))

        by : base.name ≡ e.base → cond (uses_other e.op) other.name 0 ≡ e.other → event_of_call e.op base other e.arg ≡ e
        by x y = four e.op e.op base.name e.base (cond (uses_other e.op) other.name 0) e.other e.arg e.arg refl x y refl

  -- ---- what it leaves

  module _ (r : Pass) (row : Row) (c : Called q r name row) (ended : is_ended row.ending ≡ true) (event : row.event ≡ e) (caller : row.caller ≡ q.caller) where
    alone_facts : CalledAlone q.view r.view name row
    alone_facts = c.alone (rw t.about solo.alone)

    pub ran : Ran p r e
    ran = record {
      grows = subst (λ (w : World). Grows w r.view.seen) t.seen c.grows;
      named = alone_facts.named ∙ (t.named ∙ t.next);
      about = c.about ∙ t.about;
      caller = c.caller ∙ t.caller;
      others = λ i ne. alone_facts.others i (λ z. ne (z ∙ t.next)) ∙ ap (λ (rs : NamedRows). rs i) rows_same;
      row = row;
      here = subst (λ n. row_at r.view.seen n ≡ Some row) t.next c.here;
      event = event;
      caller_is = caller ∙ t.caller;
      ended = ended;
      numbers = λ d w z. subst (λ (a : About). IsRefusal r.view.seen a.capacity d w) t.about (alone_facts.numbers d w z);
      cause = subst (λ n. HasCause r.view.seen (direct_at r.view.seen n) row.ending) t.next c.cause;
    }

pub ending_ended : (name : ℕ) (answer : Result Entry Refuse) → is_named name answer ≡ true → is_ended (ending_told answer) ≡ true
ending_ended name (Ok entry) h = refl
ending_ended name (Err (refusals.StoreFull refusal)) h = refl
ending_ended name (Err refusals.NoMemory) h = refl
ending_ended name (Err (refusals.NamesFull none)) h = absurd (true≢false (sym h))

-- a call that ended this event
pub ran_call : (p q r : Pass) (name : ℕ) (e event : Event) (answer : Result Entry Refuse) → IsSolo p → ComesNext p e → HasTicket p q name → event ≡ e → Ended q r name event answer → Ran p r e
ran_call p q r name e event answer solo next t same d = ran p q name e solo next t r (ended_row q.caller event (ending_told answer)) d.called (ending_ended name answer d.named) same refl

pub ran_skip : (p q r : Pass) (name : ℕ) (e : Event) → IsSolo p → ComesNext p e → HasTicket p q name → Called q r name (skipped_row q.caller e) → Ran p r e
ran_skip p q r name e solo next t d = ran p q name e solo next t r (skipped_row q.caller e) d refl refl refl

pub not_new : (op : Op) → ((k : Kind) → op ≡ ops.New k → ⊥) → uses_base op ≡ true
not_new (ops.New k) h = absurd (h k refl)
not_new _ h = refl
