-- Between two calls nothing is in hand but the names of tickets.
use Rattle.std.proofs.Common.{◌≡◌, ℕ, refl, sym, ap, ◌∙◌, eqb, Bool, true, false, ◌&&◌, ◌||◌, Result, Ok, Err, List, [], ◌∷◌, ◌++◌, ⊎_elim}
use Rattle.std.specs.Prelude.{IfOk, IfErr}
use Rattle.std.proofs.lemmas.Bool.{true≢false, and_parts, or_cases, eqb-true}
use Rattle.lazy_rec.specs.declared.events.Event.{Event}
use Rattle.heap_store.specs.declared.claims.NamesFull.{NamesFull}
use Rattle.heap_store.specs.Rows.{word}
use Rattle.heap_store.specs.Hand.{Hand, contains}
use Rattle.heap_store.specs.View.{View, About}
use Rattle.heap_store.specs.RowCalls.{NameDrawn, NoName}
use Rattle.force_engine.specs.declared.stack.Frame.{Frame}
use Rattle.version_book.specs.Works.{is_empty}
use Rattle.version_book.specs.RowSteps.{IsCaller, Skipped}
use Rattle.version_book.specs.Calls.{IsIdle}
use Rattle.version_book.proofs.Puts.{mine_only}
use Rattle.version_book.proofs.Called.{left_name}

pub caller_stays : {v w : View} {caller : ℕ} → w.about ≡ v.about → IsCaller v caller → IsCaller w caller
caller_stays about c = record { small = c.small; own = λ n e. c.own n (sym (ap (λ (t : About). t.caller) about) ∙ e) }

-- ---- a name is drawn, or none was left

contains_or : (xs ys : List ℕ) (i : ℕ) → contains (xs ++ ys) i ≡ true → contains xs i || contains ys i ≡ true
contains_or [] ys i h = h
contains_or (x ∷ xs) ys i h = by (contains_or xs ys i) (eqb x i) h
  where
    by : (contains (xs ++ ys) i ≡ true → contains xs i || contains ys i ≡ true) → (b : Bool) → b || contains (xs ++ ys) i ≡ true → (b || contains xs i) || contains ys i ≡ true
    by later true k = refl
    by later false k = later k

named_idle : {v w : View} {name : ℕ} → IsIdle v → NameDrawn v w name → IsIdle w
named_idle {v} {w} {name} idle n = record {
  claims = ap (λ (h : Hand). h.claims) n.hand ∙ idle.claims;
  open_rows = ap (λ (h : Hand). h.open_rows) n.hand ∙ idle.open_rows;
  reserved = ap (λ (h : Hand). h.reserved) n.hand ∙ idle.reserved;
  vain = ap (λ (h : Hand). h.vain) n.hand ∙ idle.vain;
  unused = λ i j held. ⊎_elim
      (λ old. ap (λ ws. word ws j) (n.words i old) ∙ idle.unused i j old)
      (λ new. (let same : name ≡ i = ⊎_elim (λ e. eqb-true name i e) (λ z. absurd (true≢false (sym z))) (or_cases (eqb name i) false new) in rw (← same) (n.empty j)))
      (or_cases (contains v.hand.names i) (contains (name ∷ []) i) (contains_or v.hand.names (name ∷ []) i (ap (λ (h : Hand). contains h.names i) (sym n.hand) ∙ held)));
}

unnamed_idle : {v w : View} {none : NamesFull} → IsIdle v → NoName v w none → IsIdle w
unnamed_idle {v} {w} idle n = record {
  claims = ap (λ (h : Hand). h.claims) n.hand ∙ idle.claims;
  open_rows = ap (λ (h : Hand). h.open_rows) n.hand ∙ idle.open_rows;
  reserved = ap (λ (h : Hand). h.reserved) n.hand ∙ idle.reserved;
  vain = ap (λ (h : Hand). h.vain) n.hand ∙ idle.vain;
  unused = λ i j held. (let old = ap (λ (h : Hand). contains h.names i) (sym n.hand) ∙ held in ap (λ ws. word ws j) (n.words i old) ∙ idle.unused i j old);
}

pub drawn_idle : (v w : View) (caller : ℕ) (drawn : Result ℕ NamesFull) → IfOk drawn (λ name. NameDrawn v w name) → IfErr drawn (λ none. NoName v w none) → IsIdle v → IsCaller v caller → IsIdle w × IsCaller w caller
drawn_idle v w caller (Ok name) n none idle c = (named_idle idle n, caller_stays n.about c)
drawn_idle v w caller (Err names) n none idle c = (unnamed_idle idle none, caller_stays none.about c)

-- ---- an event is skipped

pub skipped_idle : {v w : View} {caller name : ℕ} {e : Event} → IsIdle v → Skipped v w caller name e → IsIdle w
skipped_idle {v} {w} {caller} {name} idle s =
    let hand = s.hand ∙ mine_only v.about.caller name 0 _ in
    record {
      claims = ap (λ (h : Hand). h.claims) hand ∙ idle.claims;
      open_rows = ap (λ (h : Hand). h.open_rows) hand ∙ rw (idle.open_rows) refl;
      reserved = ap (λ (h : Hand). h.reserved) hand ∙ idle.reserved;
      vain = ap (λ (h : Hand). h.vain) hand ∙ idle.vain;
      unused = λ i j held. (let other = left_name v.hand.names name i (ap (λ (h : Hand). contains h.names i) (sym hand) ∙ held) in ap (λ ws. word ws j) (s.on.others i other.1 other.0) ∙ idle.unused i j other.0);
    }

-- ---- the stack of forces

empty_is : (frames : List Frame) → is_empty frames ≡ true → frames ≡ []
empty_is [] h = refl
empty_is (f ∷ fs) h = absurd (true≢false (sym h))

-- a stack that serves as before holds no claim
pub still_empty : (old new : List Frame) (about : About) → about.alone && is_empty new ≡ about.alone && is_empty old → about.alone ≡ true → old ≡ [] → new ≡ []
still_empty old new about same alone none = empty_is new (and_parts about.alone (is_empty new) (same ∙ by about.alone alone)).1
  where
    by : (a : Bool) → a ≡ true → a && is_empty old ≡ true
    by true e = ap is_empty none
    by false e = absurd (true≢false (sym e))
