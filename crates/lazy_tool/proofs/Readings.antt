-- A text that a source tells isn't refused, and a closed book of any answer keeps the bound.
use Rattle.std.proofs.Common.{◌≡◌, ℕ, ◌≤◌, false, List, Option, Some, None, length, refl, sym, ap, ◌∙◌, subst, arith}
use Rattle.std.proofs.lemmas.Bool.{true≢false}
use Rattle.std.proofs.lemmas.List.{length-append}
use Rattle.std.specs.Io.KnownBytes.{Consumes}
use Rattle.lazy_rec.specs.declared.events.Event.{Event}
use Rattle.heap_store.specs.World.{World}
use Rattle.heap_store.proofs.ShowLaws.{one_value}
use Rattle.lazy_outside.specs.Bytes.{TakesAll}
use Rattle.script_text.specs.declared.model.Reason.{Reason}
use Rattle.script_text.specs.Events.{ScriptView}
use Rattle.script_text.specs.Text.{IsText, IsFirstFault}
use Rattle.lazy_tool.specs.declared.faults.Why.{Why}
use Rattle.lazy_tool.specs.declared.faults.Why.TheVariants as why
use Rattle.lazy_tool.specs.declared.words.Command.TheVariants.{Plain}
use Rattle.lazy_tool.specs.Scripts.{IsTextOf, IsFirstUnbuilt, Tells}
use Rattle.lazy_tool.specs.Outcome.{Ends, AnswersPlain, AnswersGen, IsRead, IsFaulty, IsTooLarge, IsUnbuilt, IsRun, is_refusal}
use Rattle.lazy_tool.specs.Headline.{KeepsBound}

-- ---- words

pub same_nodes : (a b : Option ℕ) → Plain a ≡ Plain b → a ≡ b
same_nodes a b e = cc

-- ---- texts

-- bytes are a text of one list of events at most, and have no faulty line then
pub record AreReadOnce : Type 0 where
  pub one : (bytes : List ℕ) (events others : List Event) → IsTextOf bytes events → IsTextOf bytes others → events ≡ others
  pub none : (bytes : List ℕ) (events : List Event) (line : ℕ) (reason : Reason) → IsTextOf bytes events → IsFirstFault bytes line reason → ⊥

pub read_once : ((bytes : List ℕ) (s t : ScriptView) → IsText bytes s → IsText bytes t → s ≡ t)
    → ((bytes : List ℕ) (s : ScriptView) (line : ℕ) (reason : Reason) → IsText bytes s → IsFirstFault bytes line reason → ⊥) → AreReadOnce
read_once one none = record {
  one = λ bytes events others t u. ap (λ (s : ScriptView). s.events) (one bytes _ _ t.text u.text);
  none = λ bytes events line reason t f. none bytes _ line reason t.text f;
}

same_bytes : (old new : Option (List ℕ)) (bytes taken : List ℕ) → old ≡ Some bytes → TakesAll old new taken → taken ≡ bytes
same_bytes old new bytes taken told h = (subst (λ o. TakesAll o new taken) told h).0

too_long : (bytes taken : List ℕ) (new : Option (List ℕ)) → Consumes (Some bytes) new taken → length taken ≡ 16777217 → length bytes ≤ 16777216 → ⊥
too_long bytes taken None h l few = h
too_long bytes taken (Some rest) h l few = omega (arith, ap length h, length-append taken rest)

not_faulty : AreReadOnce → (old new : Option (List ℕ)) (events : List Event) (line : ℕ) (reason : Reason) → Tells old events → IsFaulty old new line reason → ⊥
not_faulty once old new events line reason t f =
    once.none t.bytes events line reason t.text (subst (λ b. IsFirstFault b line reason) (same_bytes old new t.bytes f.bytes t.told f.taken) f.fault)

not_too_large : (old new : Option (List ℕ)) (events : List Event) → Tells old events → IsTooLarge old new → ⊥
not_too_large old new events t l = too_long t.bytes l.bytes new (subst (λ o. Consumes o new l.bytes) t.told l.taken) l.many t.few

-- what was read are the events of the text
pub read_events : AreReadOnce → (old new : Option (List ℕ)) (events read : List Event) → Tells old events → IsRead old new read → read ≡ events
read_events once old new events read t r =
    once.one t.bytes read events (subst (λ b. IsTextOf b read) (same_bytes old new t.bytes r.bytes t.told r.taken) r.text) t.text

not_unbuilt : AreReadOnce → (old new : Option (List ℕ)) (events : List Event) (name : ℕ) → Tells old events → IsUnbuilt old new name → ⊥
not_unbuilt once old new events name t u =
    let first : IsFirstUnbuilt events name = subst (λ es. IsFirstUnbuilt es name) (read_events once old new events u.events t u.read) u.first in
    true≢false (sym (t.built name first.event first.here) ∙ first.unbuilt)

-- a text that is told isn't refused
pub not_refused : AreReadOnce → (nodes : Option ℕ) (old new : Ends) (w : Why) (closed : Option World) (events : List Event) → Tells old.left events → AnswersPlain nodes old new w closed → is_refusal w ≡ false
not_refused once nodes old new why.Nothing closed events t a = refl
not_refused once nodes old new why.Usage closed events t a = refl
not_refused once nodes old new (why.Script line reason) closed events t a = absurd (not_faulty once old.left new.left events line reason t a.0)
not_refused once nodes old new why.TooLarge closed events t a = absurd (not_too_large old.left new.left events t a.0)
not_refused once nodes old new (why.NotBuilt name) closed events t a = absurd (not_unbuilt once old.left new.left events name t a.0)
not_refused once nodes old new why.Read closed events t a = refl
not_refused once nodes old new why.Write closed events t a = refl
not_refused once nodes old new why.Memory closed events t a = refl

-- ---- made scripts

pub made_not_usage : (seed events : ℕ) (old new : Ends) (w : Why) (closed : Option World) → AnswersGen seed events old new w closed → w ≡ why.Usage → ⊥
made_not_usage seed events old new w closed a e = subst (λ v. AnswersGen seed events old new v closed) e a

pub made_not_refused : (seed events : ℕ) (old new : Ends) (w : Why) (closed : Option World) → AnswersGen seed events old new w closed → is_refusal w ≡ false
made_not_refused seed events old new why.Nothing closed a = refl
made_not_refused seed events old new why.Usage closed a = refl
made_not_refused seed events old new (why.Script line reason) closed a = absurd a
made_not_refused seed events old new why.TooLarge closed a = absurd a
made_not_refused seed events old new (why.NotBuilt name) closed a = absurd a
made_not_refused seed events old new why.Read closed a = refl
made_not_refused seed events old new why.Write closed a = refl
made_not_refused seed events old new why.Memory closed a = refl

-- ---- the bound

kept : (nodes : Option ℕ) (old new : Ends) (b book : World) → IsRun nodes old new b → b ≡ book → KeepsBound nodes old new book
kept nodes old new b book run e = subst (KeepsBound nodes old new) e (record { events = run.events; read = run.read; bounded = run.run.bounded })

none_kept : (nodes : Option ℕ) (old new : Ends) (closed : Option World) (book : World) → closed ≡ None → closed ≡ Some book → KeepsBound nodes old new book
none_kept nodes old new closed book none e = absurd cc

pub bound_kept : (nodes : Option ℕ) (old new : Ends) (w : Why) (closed : Option World) → AnswersPlain nodes old new w closed → (book : World) → closed ≡ Some book → KeepsBound nodes old new book
bound_kept nodes old new why.Nothing closed a book e = kept nodes old new a.book book a.run (one_value a.book book (sym a.closed_is ∙ e))
bound_kept nodes old new why.Write closed a book e = kept nodes old new a.book book a.run (one_value a.book book (sym a.closed_is ∙ e))
bound_kept nodes old new why.Usage closed a book e = absurd a
bound_kept nodes old new (why.Script line reason) closed a book e = none_kept nodes old new closed book a.1.no_book e
bound_kept nodes old new why.TooLarge closed a book e = none_kept nodes old new closed book a.1.no_book e
bound_kept nodes old new (why.NotBuilt name) closed a book e = none_kept nodes old new closed book a.1.no_book e
bound_kept nodes old new why.Read closed a book e = none_kept nodes old new closed book a.1.no_book e
bound_kept nodes old new why.Memory closed a book e = none_kept nodes old new closed book a.no_book e
