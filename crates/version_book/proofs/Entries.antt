-- The entry that a call answers.
use Rattle.std.proofs.Common.{◌≡◌, ℕ, ◌≤◌, refl, sym, ap, ◌∙◌, subst, arith, Bool, true, Some, Result, Ok, Err, List, [], length}
use Rattle.std.specs.Prelude.{IfOk, IfErr}
use Rattle.lazy_rec.specs.declared.events.Kind.{Kind}
use Rattle.lazy_rec.specs.declared.events.Kind.TheVariants as kinds
use Rattle.lazy_rec.specs.declared.events.Op.{Op}
use Rattle.lazy_rec.specs.declared.events.Event.{Event}
use Rattle.lazy_rec.specs.declared.events.Reply.{Reply}
use Rattle.lazy_rec.specs.declared.records.Rec.{Rec}
use Rattle.lazy_rec.specs.Meaning.{means}
use Rattle.lazy_rec.specs.Plain.{effect}
use Rattle.lazy_rec.specs.Due.{new_places}
use Rattle.heap_store.specs.declared.versions.Version.{Version}
use Rattle.heap_store.specs.declared.jobs.EventJob.{EventJob}
use Rattle.heap_store.specs.declared.jobs.Stage.TheVariants.{Start}
use Rattle.heap_store.specs.World.{World, recs, holds}
use Rattle.heap_store.specs.Rows.{row_at}
use Rattle.heap_store.specs.Growth.{Grows}
use Rattle.heap_store.specs.Legal.{in_order}
use Rattle.heap_store.specs.Lawful.{IsLawful}
use Rattle.heap_store.specs.Hand.{contains}
use Rattle.heap_store.specs.Stages.{direct_of}
use Rattle.heap_store.specs.View.{View, IsLawfulView}
use Rattle.heap_store.specs.Jobs.{list_at, outcome}
use Rattle.heap_store.proofs.GrowthLaws.{at_true}
use Rattle.heap_store.proofs.LawfulLaws.{lawful_names}
use Rattle.heap_store.proofs.MeaningLaws.{means_kept}
use Rattle.force_engine.specs.declared.solo.GiveUp.{GiveUp}
use Rattle.force_engine.specs.declared.solo.GiveUp.TheVariants as causes
use Rattle.version_book.specs.declared.answers.Entry.{Entry}
use Rattle.version_book.specs.declared.answers.Refuse.{Refuse}
use Rattle.version_book.specs.declared.answers.Refuse.TheVariants as refusals
use Rattle.version_book.specs.declared.event_work.Outcome.{Outcome}
use Rattle.version_book.specs.Pass.{Pass, pass_of}
use Rattle.version_book.specs.Works.{MadeOutcome, MadeEmpty, Stopped}
use Rattle.version_book.specs.RowSteps.{Answers, ended_row}
use Rattle.version_book.specs.Finish.{version_made, ending_made, answer_made}
use Rattle.version_book.specs.Calls.{MayExtend, IsKnown, IsOutcome, IsNew, event_of_call, new_event}
use Rattle.version_book.proofs.EventJobs.{version_is, version_later, job}
use Rattle.version_book.proofs.Outcomes.{list_stays, job_answers, empty_answers}
use Rattle.version_book.proofs.Called.{CameOut, row_known}

-- a name in hand is the number of its first version
pub name_low : (v : View) (name : ℕ) → IsLawfulView v → contains v.hand.names name ≡ true → name ≤ 200000
name_low v name law held = omega (arith, law.names_low name held, law.rows_few)

-- a memory row comes of a force alone
pub not_memory : (X : Type 0) (kind : Kind) (name : ℕ) (made : Result Outcome GiveUp) (answer : Result Entry Refuse) → answer ≡ answer_made name kind made → IfErr made (λ cause. cause ≡ causes.NoMemory → X) → IfErr answer (λ refuse. refuse ≡ refusals.NoMemory → X)
not_memory X kind name made answer same h = subst (λ (a : Result Entry Refuse). IfErr a (λ refuse. refuse ≡ refusals.NoMemory → X)) (sym same) (by made h)
  where
    by : (made : Result Outcome GiveUp) → IfErr made (λ cause. cause ≡ causes.NoMemory → X) → IfErr (answer_made name kind made) (λ refuse. refuse ≡ refusals.NoMemory → X)
    by (Ok o) h = tt
    by (Err (causes.Full refusal)) h = λ z. cc
    by (Err causes.NoMemory) h = λ z. h refl

pub known_made : (v : View) (caller name : ℕ) (e : Event) (kind : Kind) (made : Result Outcome GiveUp) (answer : Result Entry Refuse) → answer ≡ answer_made name kind made → name ≤ 200000 → row_at v.seen name ≡ Some (ended_row caller e (ending_made name kind made)) → IfOk answer (λ entry. IsKnown (pass_of v caller) entry)
known_made v caller name e kind made answer same low here = subst (λ (a : Result Entry Refuse). IfOk a (λ entry. IsKnown (pass_of v caller) entry)) (sym same) (by made here)
  where
    by : (made : Result Outcome GiveUp) → row_at v.seen name ≡ Some (ended_row caller e (ending_made name kind made)) → IfOk (answer_made name kind made) (λ entry. IsKnown (pass_of v caller) entry)
    by (Ok o) here = row_known v.seen name caller e kind o low here
    by (Err cause) here = tt

-- the list of a version that was made stays
made_stays : {a b : World} (name : ℕ) (kind : Kind) (o : Outcome) (test : Rec → Bool) → IsLawful a → Grows a b → holds (recs a) o.root.0 test ≡ true → list_at b (version_made name kind o) ≡ in_order kind (means (recs a) o.root.0)
made_stays {a} {b} name kind o test law g root =
    let k = at_true test (recs a o.root.0) root in
    ap (in_order kind) (sym (means_kept (recs a) (recs b) (lawful_names law) g.records o.root.0 (k.0, k.1)))

-- ---- new structures

pub empty_came : (a b : View) (kind : Kind) (made : Result Outcome GiveUp) → IfOk made (λ o. MadeEmpty a b kind o) → IfErr made (λ cause. Stopped a b (new_places kind) cause) → CameOut a b (new_places kind) made
empty_came a b kind (Ok o) ok err = ok.worked
empty_came a b kind (Err cause) ok err = err

pub empty_answer : (a b : View) (name : ℕ) (kind : Kind) (made : Result Outcome GiveUp) → IfOk made (λ o. MadeEmpty a b kind o) → IfOk made (λ o. Answers b.seen (new_event kind) o.reply (version_made name kind o))
empty_answer a b name kind (Ok o) ok = empty_answers a b name kind o ok
empty_answer a b name kind (Err cause) ok = tt

pub new_made : (a b c : View) (caller name : ℕ) (kind : Kind) (made : Result Outcome GiveUp) (answer : Result Entry Refuse) → IsLawfulView b → Grows b.seen c.seen → answer ≡ answer_made name kind made → IfOk made (λ o. MadeEmpty a b kind o) → IfOk answer (λ entry. IsNew (pass_of c caller) kind entry)
new_made a b c caller name kind made answer law g same ok = subst (λ (x : Result Entry Refuse). IfOk x (λ entry. IsNew (pass_of c caller) kind entry)) (sym same) (by made ok)
  where
    none : (k : Kind) → in_order k [] ≡ []
    none kinds.Prio = refl
    none _ = refl

    by : (made : Result Outcome GiveUp) → IfOk made (λ o. MadeEmpty a b kind o) → IfOk (answer_made name kind made) (λ entry. IsNew (pass_of c caller) kind entry)
    by (Err cause) m = tt
    by (Ok o) m = record { kind_is = refl; list = made_stays name kind o _ law.world g m.root ∙ (ap (in_order kind) m.empty ∙ none kind); size = m.size }

-- ---- events on versions

module _ (p : Pass) (name : ℕ) (op : Op) (base other : Version) (arg : ℕ) (may : MayExtend p name op base other arg) (law0 : IsLawfulView p.view) where
  pub work_came : (a b : View) (made : Result Outcome GiveUp) → IfOk made (λ o. MadeOutcome a b (job p name op base other arg may) o) → IfErr made (λ cause. Stopped a b (direct_of (job p name op base other arg may)) cause) → CameOut a b (direct_of (job p name op base other arg may)) made
  work_came a b (Ok o) ok err = ok.worked
  work_came a b (Err cause) ok err = err

  module _ (b : View) (law : IsLawfulView b) (g : Grows p.view.seen b.seen) where
    pub work_answer : (a : View) (made : Result Outcome GiveUp) → IfOk made (λ o. MadeOutcome a b (job p name op base other arg may) o) → IfOk made (λ o. Answers b.seen (event_of_call op base other arg) o.reply (version_made name base.kind o))
    work_answer a (Err cause) ok = tt
    work_answer a (Ok o) ok = job_answers p name op base other arg may b.seen law.legal law.roots (version_later g base.name base may.base_seen) (version_later g other.name other may.other_seen) o ok.end

    -- the job does what the operation does on the lists that were seen when it was called
    same_lists : outcome b.seen (job p name op base other arg may) ≡ effect op (list_at p.view.seen base) (list_at p.view.seen other) arg
    same_lists =
        let l = list_stays law0.world g base (version_is p.view.seen law0.legal law0.roots base.name base may.base_seen) in
        let m = list_stays law0.world g other (version_is p.view.seen law0.legal law0.roots other.name other may.other_seen) in
        ap (λ (v : List ℕ). effect op v (list_at b.seen other) arg) l ∙ ap (λ (w : List ℕ). effect op (list_at p.view.seen base) w arg) m

    pub outcome_made : (a c : View) (made : Result Outcome GiveUp) (answer : Result Entry Refuse) → Grows b.seen c.seen → answer ≡ answer_made name base.kind made → IfOk made (λ o. MadeOutcome a b (job p name op base other arg may) o)
        → IfOk answer (λ entry. IsOutcome p (pass_of c p.caller) op base other arg entry)
    outcome_made a c made answer later same ok = subst (λ (x : Result Entry Refuse). IfOk x (λ entry. IsOutcome p (pass_of c p.caller) op base other arg entry)) (sym same) (by made ok)
      where
        by : (made : Result Outcome GiveUp) → IfOk made (λ o. MadeOutcome a b (job p name op base other arg may) o) → IfOk (answer_made name base.kind made) (λ entry. IsOutcome p (pass_of c p.caller) op base other arg entry)
        by (Err cause) m = tt
        by (Ok o) m =
            let list = made_stays name base.kind o _ law.world later m.end.root_is ∙ (m.end.means ∙ ap (λ (x : List ℕ × Reply). x.0) same_lists) in
            record {
              kind = refl;
              reply = m.end.reply_is ∙ ap (λ (x : List ℕ × Reply). x.1) same_lists;
              list = list;
              size = m.end.size_is ∙ (ap (λ (x : List ℕ × Reply). length x.0) same_lists ∙ ap length (sym list));
            }

-- a job at its first stage is the one of its call
pub at_first : (j : EventJob) → j.stage ≡ Start → j ≡ record { op = j.op; base = j.base; other = j.other; arg = j.arg; stage = Start }
at_first j e = rw (← e) refl
