-- The loop of a force.
use Rattle.std.proofs.Common.{◌≡◌, ℕ, Bool, true, ◌&&◌, List, [], ◌∷◌, ◌++◌, reverse, refl, sym, ap, ◌∙◌, arith, subst}
use Rattle.std.specs.Prelude.{eqb}
use Rattle.std.proofs.lemmas.Grind.{common_steps}
use Rattle.std.proofs.lemmas.Bool.{or_right, and_parts}
use Rattle.std.proofs.lemmas.List.{reverse-append}
use Rattle.lazy_rec.specs.declared.places.Ref.{Ref}
use Rattle.lazy_rec.specs.declared.records.Rec.{Rec}
use Rattle.heap_store.specs.declared.jobs.Cursor.{Cursor}
use Rattle.lazy_rec.specs.Named.{is_pending}
use Rattle.lazy_rec.specs.Tests.{implies}
use Rattle.heap_store.specs.World.{World, is_done, is_claimed_at, is_taken}
use Rattle.heap_store.specs.Growth.{Grows}
use Rattle.heap_store.specs.Hand.{contains}
use Rattle.heap_store.specs.Budget.{is_funded, is_funded_at}
use Rattle.heap_store.specs.View.{View, IsLawfulView, Quiet}
use Rattle.heap_store.specs.Jobs.{IsWork, IsNeed, cursor_fits}
use Rattle.force_engine.specs.declared.stack.Frame.{Frame}
use Rattle.force_engine.specs.declared.solo.GiveUp.{GiveUp}
use Rattle.force_engine.specs.Stacked.{places_of, IsStacked, Passed, work}
use Rattle.force_engine.specs.Forced.{GaveUp, IsGivenUp}
use Rattle.force_engine.proofs.Growing.{IsWork-grows, cursor_fits-grows, cursor_fits-new, IsWork-published}
use Rattle.force_engine.proofs.Giving.{reverse-push, newest_of}
use Rattle.force_engine.proofs.Turns.{Passed_refl, Passed_trans, gave_up_later}

-- each is work that is done here, and its cursor fits
abbrev pub AllWork : (Rec → Bool) → World → List Frame → Type 0
AllWork does w [] = Unit {0}
AllWork does w (f ∷ fs) = IsWork does w f.place.0 × (cursor_fits w f.place.0 f.cursor ≡ true) × AllWork does w fs

AllWork-grows : {a b : World} → Grows a b → (does : Rec → Bool) (fs : List Frame) → AllWork does a fs → AllWork does b fs
AllWork-grows g does [] h = tt
AllWork-grows g does (f ∷ fs) h = (IsWork-grows g does f.place.0 h.0, cursor_fits-grows g f.place.0 f.cursor h.1, AllWork-grows g does fs h.2)

-- the place of the claim that was won first
abbrev pub oldest : List Frame → Frame → Ref
oldest [] newest = newest.place
oldest (f ∷ fs) newest = f.place

oldest-push : (fs : List Frame) (f newest : Frame) → oldest (fs ++ f ∷ []) newest ≡ oldest fs f
oldest-push [] f newest = refl
oldest-push (f' ∷ fs) f newest = refl

contains-last : (xs : List Frame) (f : Frame) → contains (places_of (xs ++ f ∷ [])) f.place.0 ≡ true
contains-last [] f = grind (arith, common_steps)
contains-last (x ∷ xs) f = let ih = contains-last xs f in grind (arith, common_steps, ih)

pub record IsForcing (does : Rec → Bool) (start now : View) (first : Ref) (stack : List Frame) (newest : Frame) : Type 0 where
  pub stacked : IsStacked now (newest ∷ reverse stack)
  pub works : AllWork does now.seen (newest ∷ reverse stack)
  pub first_is : oldest stack newest ≡ first
  pub passed : Passed start now

pub running_start : (does : Rec → Bool) (v : View) (first : Frame) (stack : List Frame) → IsStacked v (first ∷ []) → IsWork does v.seen first.place.0 → first.cursor.passed ≡ 0 → stack ≡ [] → IsForcing does v v first.place stack first
running_start does v first stack s w c e =
    rw e (record {
      stacked = s;
      works = (w, cursor_fits-new v.seen first.place.0 first.cursor (IsWork-published does v.seen first.place.0 w) c, tt);
      first_is = refl;
      passed = Passed_refl v;
    })

-- after a prepare
pub running_looked : {does : Rec → Bool} {start now next : View} {first : Ref} (stack : List Frame) (newest : Frame) (cursor : Cursor) → IsForcing does start now first stack newest → Quiet now next → cursor_fits next.seen newest.place.0 cursor ≡ true → IsForcing does start next first stack (record newest { cursor = cursor })
running_looked {does} {start} {now} {next} {first} stack newest cursor r q c =
    let e : next ≡ now = q.alone r.stacked.alone in
    let c' : cursor_fits now.seen newest.place.0 cursor ≡ true = rw e at c in
    rw e (record {
      stacked = record { alone = r.stacked.alone; claims = r.stacked.claims; rises = r.stacked.rises; room = r.stacked.room };
      works = (r.works.0, c', r.works.2);
      first_is = same (stack) r.first_is;
      passed = r.passed;
    })
  where
    same : (fs : List Frame) → oldest fs newest ≡ first → oldest fs (record newest { cursor = cursor }) ≡ first
    same [] h = h
    same (f ∷ fs) h = h

pub work_looked : {does : Rec → Bool} {start now next : View} {first : Ref} {stack : List Frame} {newest : Frame} → IsForcing does start now first stack newest → Quiet now next → work next ≡ work now
work_looked r q = ap work (q.alone r.stacked.alone)

-- what the newest claim needs is paid for, as the claim is
pub need_funded : {does : Rec → Bool} {start now : View} {first : Ref} {stack : List Frame} {newest : Frame} (t : ℕ) → IsLawfulView now → IsForcing does start now first stack newest → IsNeed does now.seen newest.place.0 t → is_funded_at now.seen t ≡ true
need_funded {does} {start} {now} {first} {stack} {newest} t law r n =
    let e = n.here in
    let claimed = (newest_of newest (reverse stack) law r.stacked.claims).claimed in
    let taken : is_taken now.seen newest.place.0 ≡ true = or_right (is_done now.seen newest.place.0) (is_claimed_at now.seen newest.place.0) claimed in
    let work : is_pending n.rec && does n.rec ≡ true = (let w = r.works.0 in rw e at w) in
    let pending = (and_parts (is_pending n.rec) (does n.rec) work).0 in
    let asked : implies (is_pending n.rec) (implies (is_taken now.seen newest.place.0) (is_funded now.seen newest.place.0 n.rec)) ≡ true = law.funded.taken newest.place.0 n.rec e in
    let funded : is_funded now.seen newest.place.0 n.rec ≡ true = rw (pending, taken) at asked in
    let there = n.there in
    rw there (n.funded funded)

-- after a need was claimed
pub running_opened : {does : Rec → Bool} {start now next : View} {first : Ref} (stack stack' : List Frame) (newest need : Frame) → IsForcing does start now first stack newest → IsWork does now.seen need.place.0 → need.cursor.passed ≡ 0 → stack' ≡ stack ++ newest ∷ [] → IsStacked next (need ∷ reverse stack') → Passed now next → IsForcing does start next first stack' need
running_opened {does} {start} {now} {next} {first} stack stack' newest need r w c e s p =
    let rev : reverse stack' ≡ newest ∷ reverse stack = ap reverse e ∙ reverse-push stack newest in
    let w' = IsWork-grows p.grows does need.place.0 w in
    record {
      stacked = s;
      works = rw rev (w', cursor_fits-new next.seen need.place.0 need.cursor (IsWork-published does next.seen need.place.0 w') c, AllWork-grows p.grows does (newest ∷ reverse stack) r.works);
      first_is = rw e (oldest-push stack newest need ∙ r.first_is);
      passed = Passed_trans r.passed p;
    }

-- after the newest was completed, and another was taken from the stack
pub running_popped : {does : Rec → Bool} {start now next : View} {first : Ref} (stack stack' : List Frame) (newest waiting : Frame) → IsForcing does start now first stack newest → stack ≡ stack' ++ waiting ∷ [] → IsStacked next (reverse stack) → Passed now next → IsForcing does start next first stack' waiting
running_popped {does} {start} {now} {next} {first} stack stack' newest waiting r e s p =
    let rev : reverse stack ≡ waiting ∷ reverse stack' = ap reverse e ∙ reverse-push stack' waiting in
    let works : AllWork does next.seen (reverse stack) = AllWork-grows p.grows does (reverse stack) r.works.2 in
    let first' : oldest (stack' ++ waiting ∷ []) newest ≡ first = rw e at r.first_is in
    record {
      stacked = rw rev at s;
      works = rw rev at works;
      first_is = sym (oldest-push stack' waiting newest) ∙ first';
      passed = Passed_trans r.passed p;
    }

own : (stack : List Frame) (newest : Frame) → contains (places_of (newest ∷ reverse stack)) (oldest stack newest).0 ≡ true
own [] newest = grind (arith, common_steps)
own (f ∷ fs) newest =
    let e : reverse (f ∷ fs) ≡ reverse fs ++ f ∷ [] = reverse-append (f ∷ []) fs in
    let k : contains (places_of (reverse (f ∷ fs))) f.place.0 ≡ true = rw e (contains-last (reverse fs) f) in
    or_right (eqb newest.place.0 f.place.0) (contains (places_of (reverse (f ∷ fs))) f.place.0) k

-- after a refusal
pub running_refused : {does : Rec → Bool} {start now next : View} {first : Ref} (stack : List Frame) (newest : Frame) (cause : GiveUp) → IsForcing does start now first stack newest → GaveUp now next (places_of (newest ∷ reverse stack)) cause → IsGivenUp start next first.0 cause
running_refused stack newest cause r g = record {
  given = places_of (newest ∷ reverse stack);
  own = (let P : Ref → Type 0 = λ q. contains (places_of (newest ∷ reverse stack)) q.0 ≡ true in subst P r.first_is (own stack newest));
  gave_up = gave_up_later r.passed cause g;
}
