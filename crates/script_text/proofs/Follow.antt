-- A line that is an event gives one that may stand next, and a script grows by such events.
use Rattle.std.proofs.Common.{◌≡◌, ℕ, zero, suc, ◌+◌, ◌<◌, ◌≤◌, ◌^◌, ltb, leb, eqb, cond, Bool, true, false, not, ◌&&◌, ◌||◌, Option, Some, None, Result, Ok, Err, List, [], ◌∷◌, ◌++◌, length, slice_get, take, refl, sym, ap, subst, ◌∙◌, arith, ◌⊎◌, inl, inr, lit<, length-append}
use Rattle.std.specs.Str.Parse.{digits_value}
use Rattle.std.proofs.lemmas.Bool.{and_parts, and_from, ltb-true, leb-true, lt-ltb, le-leb, not-true, cases_lt, cases_eq}
use Rattle.std.proofs.lemmas.Option.{slice_get_past}
use Rattle.lazy_rec.specs.declared.events.Kind.{Kind}
use Rattle.lazy_rec.specs.declared.events.Op.{Op}
use Rattle.lazy_rec.specs.declared.events.Op.TheVariants as ops
use Rattle.lazy_rec.specs.declared.events.Event.{Event}
use Rattle.lazy_rec.specs.Tests.{implies}
use Rattle.lazy_rec.specs.Kinds.{same_kind, belongs, is_split, uses_base, uses_other, uses_argument}
use Rattle.lazy_rec.specs.History.{event_of, event_name, is_second, second_mark, kind_of, new_kind, is_named_well, is_event_at}
use Rattle.lazy_rec.proofs.NumberLaws.{same_kind-eq}
use Rattle.lazy_rec.proofs.HistoryLaws.{stands, event_name-first, event_name-second, is_second-first, event_of-append, event_of-last, kind_of-append, kind_is, slice_get-append, slice_get-last}
use Rattle.script_text.specs.declared.model.Form.{Form}
use Rattle.script_text.specs.declared.model.Form.TheVariants as forms
use Rattle.script_text.specs.declared.model.Reason.{Reason}
use Rattle.script_text.specs.declared.model.Reason.TheVariants.{WrongCount, UnknownWord, BadNumber, BaseNotEarlier, NotOfThisKind, TwoKinds, TooMany, UnknownLabel, NoSecond}
use Rattle.script_text.specs.declared.words.Syntax.{Syntax}
use Rattle.script_text.specs.declared.words.Syntax.TheVariants as syntax
use Rattle.script_text.specs.declared.versions.Said.{Said}
use Rattle.script_text.specs.Lines.{number_of, is_number, most_number}
use Rattle.script_text.specs.Words.{operations, has_labels, syntax_of, kind_named}
use Rattle.script_text.specs.Events.{ScriptView, Names, ◌>>=◌, or_else, check, only_one, only_two, event, said_of, kind_before, is_split_at, version_of, on_base, on_two, new_event, event_with, after_label, event_at}
use Rattle.script_text.specs.Text.{IsWritable, Follows, AreKindsOf, is_in_form, events_with}
use Rattle.script_text.proofs.Fits.{HasBase, fit_one, fit_two, look_own, fits_agree, base_below}

-- what a step that succeeds did
pub bind_ok : {A B : Type 0} (r : Result A Reason) (f : A → Result B Reason) (y : B) → (r >>= f) ≡ Ok y → (x : A) × (r ≡ Ok x) × (f x ≡ Ok y)
bind_ok (Ok x) f y h = (x, refl, h)
bind_ok (Err e) f y h = cc

pub or_else_ok : {A : Type 0} (o : Option A) (r : Reason) (x : A) → or_else o r ≡ Ok x → o ≡ Some x
or_else_ok None r x h = cc
or_else_ok (Some y) r x h = cc

pub if_ok : {A : Type 0} (b : Bool) (x : Result A Reason) (r : Reason) (y : A) → cond b x (Err r) ≡ Ok y → (b ≡ true) × (x ≡ Ok y)
if_ok true x r y h = (refl, h)
if_ok false x r y h = cc

pub check_ok : (b : Bool) (r : Reason) (y : Bool) → check b r ≡ Ok y → b ≡ true
check_ok b r y h = (if_ok b (Ok b) r y h).0

pub or_right : (a b : Bool) → b ≡ true → (a || b) ≡ true
or_right true b h = refl
or_right false b h = h

-- numbers of a form
pub most_number-lt : (form : Form) → most_number form < 2 ^ 64
most_number-lt forms.One = lit< tt
most_number-lt forms.Two = lit< tt
most_number-lt forms.Three = lit< tt

pub number_low : (form : Form) (w : List ℕ) (n : ℕ) → number_of form w ≡ Ok n → leb n (most_number form) ≡ true
number_low form w n h =
    let parts = if_ok (is_number form w) (Ok (digits_value 10 w)) BadNumber n h in
    let low = and_parts _ (leb (digits_value 10 w) (most_number form)) parts.0 in
    let is : digits_value 10 w ≡ n = let p = parts.1 in cc in
    subst (λ k. leb k (most_number form) ≡ true) is low.1

pub number_small : (form : Form) (n : ℕ) → leb n (most_number form) ≡ true → n < 2 ^ 64
number_small form n h = let low = leb-true n (most_number form) h in omega (arith, most_number-lt form)

-- the form has an operation that its lines have, and the fields that it uses are those of its syntax
abbrev pub is_old : Form → Op → Bool
is_old form o = has_labels form || not (is_split o)

abbrev pub is_own : Form → Syntax → Bool
is_own form syntax.New = true
is_own form (syntax.Base o) = uses_base o && not (uses_other o) && is_old form o
is_own form (syntax.Argument o) = uses_base o && not (uses_other o) && uses_argument o && is_old form o
is_own form (syntax.Other o) = uses_base o && uses_other o && is_old form o

pub syntax_own : (form : Form) (w : List ℕ) (s : Syntax) → syntax_of form w ≡ Some s → is_own form s ≡ true
syntax_own forms.One w s h = look_own (is_own forms.One) w (take 27 operations) s refl h
syntax_own forms.Two w s h = look_own (is_own forms.Two) w operations s refl h
syntax_own forms.Three w s h = look_own (is_own forms.Three) w operations s refl h

-- ---- versions that were found

record IsNamed (before : List Event) (n v : ℕ) : Type 0 where
  pub name : event_name v ≡ n
  pub well : is_named_well (event_of before) v ≡ true

implies_right : (a b : Bool) → b ≡ true → implies a b ≡ true
implies_right true b h = h
implies_right false b h = refl

pub implies_left : (a b : Bool) → a ≡ false → implies a b ≡ true
implies_left true b h = cc
implies_left false b h = refl

named : (before : List Event) (second : Bool) (n v : ℕ) → n ≤ 200000 → cond second (cond (is_split_at before n) (Ok (n + second_mark)) (Err NoSecond)) (Ok n) ≡ Ok v → IsNamed before n v
named before true n v low h =
    let g = if_ok (is_split_at before n) (Ok (n + second_mark)) NoSecond v h in
    let is : n + second_mark ≡ v = let p = g.1 in cc in
    let name : event_name v ≡ n = subst (λ u. event_name u ≡ n) is (event_name-second n) in
    record { name = name; well = implies_right (is_second v) (is_split_at before (event_name v)) (subst (λ m. is_split_at before m ≡ true) (sym name) g.0) }
named before false n v low h =
    let is : n ≡ v = cc in
    let first : v < second_mark = omega arith in
    record { name = event_name-first v first ∙ sym is; well = implies_left (is_second v) (is_split_at before (event_name v)) (is_second-first v first) }

-- an earlier version whose kind has the operation
found_base : (before : List Event) (o : Op) (b : Said) (k : Kind) (v : ℕ) → length before < 200000 → kind_before before b.name ≡ Ok k → version_of before b ≡ Ok v → belongs k o ≡ true → HasBase (event_of before) (suc (length before)) o v
found_base before o b k v room at is has =
    let g = if_ok (ltb 0 b.name && leb b.name (length before)) (or_else (kind_of (event_of before) b.name) BaseNotEarlier) BaseNotEarlier k at in
    let range = and_parts (ltb 0 b.name) (leb b.name (length before)) g.0 in
    let high = leb-true b.name (length before) range.1 in
    let it = named before b.second b.name v (omega arith) is in
    record {
      smaller = subst (λ m. (ltb 0 m && ltb m (suc (length before))) ≡ true) (sym it.name) (and_from (ltb 0 b.name) (ltb b.name (suc (length before))) range.0 (lt-ltb b.name (suc (length before)) (omega arith)));
      kind = k;
      is = ap (kind_of (event_of before)) it.name ∙ or_else_ok (kind_of (event_of before) b.name) BaseNotEarlier k g.1;
      has = has;
      second = it.well;
    }

fits_two : (before : List Event) (o : Op) (k j : Kind) (b c : Said) (v u : ℕ) → length before < 200000 → uses_base o ≡ true → uses_other o ≡ true → kind_before before b.name ≡ Ok k → kind_before before c.name ≡ Ok j → version_of before b ≡ Ok v → version_of before c ≡ Ok u → belongs k o ≡ true → same_kind k j ≡ true → is_event_at (event_of before) (suc (length before)) (event o v u 0) ≡ true
unfolding found_base
fits_two before o k j b c v u room base other at at' is is' has same =
    fit_two (event_of before) (suc (length before)) o v u base other (found_base before o b k v room at is has) (found_base before o c j u room at' is' (subst (λ i. belongs i o ≡ true) (same_kind-eq k j same) has)) same

-- ---- events that were found

on_base_follows : (before : ScriptView) (o : Op) (b : Said) (x : ℕ) (e : Event) → length before.events < 200000 → uses_base o ≡ true → uses_other o ≡ false → (uses_argument o || eqb x 0) ≡ true → leb x (most_number before.form) ≡ true → is_old before.form o ≡ true → on_base before.events o b x ≡ Ok e → Follows before e
on_base_follows before o b x e room base other argument small old h =
    let es = before.events in
    let k = bind_ok (kind_before es b.name) (λ k. version_of es b >>= λ v. cond (belongs k o) (Ok (event o v 0 x)) (Err NotOfThisKind)) e h in
    let v = bind_ok (version_of es b) (λ v. cond (belongs k.0 o) (Ok (event o v 0 x)) (Err NotOfThisKind)) e k.2 in
    let g = if_ok (belongs k.0 o) (Ok (event o v.0 0 x)) NotOfThisKind e v.2 in
    let same : event o v.0 0 x ≡ e = let p = g.1 in cc in
    subst (Follows before) same (record {
      room = room;
      fits = fit_one (event_of es) (suc (length es)) o v.0 x base other argument (number_small before.form x small) (found_base es o b k.0 v.0 room k.1 v.1 g.0);
      in_form = and_from (leb x (most_number before.form)) (is_old before.form o) small old;
    })

on_two_follows : (before : ScriptView) (o : Op) (b c : Said) (e : Event) → length before.events < 200000 → uses_base o ≡ true → uses_other o ≡ true → is_old before.form o ≡ true → on_two before.events o b c ≡ Ok e → Follows before e
on_two_follows before o b c e room base other old h =
    let es = before.events in
    let k = bind_ok (kind_before es b.name) (λ k. kind_before es c.name >>= λ j. version_of es b >>= λ v. version_of es c >>= λ u. cond (belongs k o) (cond (same_kind k j) (Ok (event o v u 0)) (Err TwoKinds)) (Err NotOfThisKind)) e h in
    let j = bind_ok (kind_before es c.name) (λ j. version_of es b >>= λ v. version_of es c >>= λ u. cond (belongs k.0 o) (cond (same_kind k.0 j) (Ok (event o v u 0)) (Err TwoKinds)) (Err NotOfThisKind)) e k.2 in
    let v = bind_ok (version_of es b) (λ v. version_of es c >>= λ u. cond (belongs k.0 o) (cond (same_kind k.0 j.0) (Ok (event o v u 0)) (Err TwoKinds)) (Err NotOfThisKind)) e j.2 in
    let u = bind_ok (version_of es c) (λ u. cond (belongs k.0 o) (cond (same_kind k.0 j.0) (Ok (event o v.0 u 0)) (Err TwoKinds)) (Err NotOfThisKind)) e v.2 in
    let g = if_ok (belongs k.0 o) (cond (same_kind k.0 j.0) (Ok (event o v.0 u.0 0)) (Err TwoKinds)) NotOfThisKind e u.2 in
    let g' = if_ok (same_kind k.0 j.0) (Ok (event o v.0 u.0 0)) TwoKinds e g.1 in
    let same : event o v.0 u.0 0 ≡ e = let p = g'.1 in cc in
    subst (Follows before) {x = event o v.0 u.0 0} same (record {
      room = room;
      fits = fits_two es o k.0 j.0 b c v.0 u.0 room base other k.1 j.1 v.1 u.1 g.0 g'.0;
      in_form = and_from (leb 0 (most_number before.form)) (is_old before.form o) (le-leb 0 (most_number before.form) (omega arith)) old;
    })

follows_with : (before : ScriptView) (names : Names) (s : Syntax) (ws : List (List ℕ)) (e : Event) → length before.events < 200000 → is_own before.form s ≡ true → event_with before names s ws ≡ Ok e → Follows before e
unfolding event_with
follows_with before names syntax.New ws e room own h =
    let w = bind_ok (or_else (only_one ws) WrongCount) new_event e h in
    let k = bind_ok (or_else (kind_named w.0) UnknownWord) (λ k. Ok (event (ops.New k) 0 0 0)) e w.2 in
    let same : event (ops.New k.0) 0 0 0 ≡ e = let p = k.2 in cc in
    subst (Follows before) same (record {
      room = room;
      fits = refl;
      in_form = and_from (leb 0 (most_number before.form)) (is_old before.form (ops.New k.0)) (le-leb 0 (most_number before.form) (omega arith)) (or_right (has_labels before.form) true refl);
    })
follows_with before names (syntax.Base o) ws e room own h =
    let fm = before.form in
    let es = before.events in
    let w = bind_ok (or_else (only_one ws) WrongCount) (λ w. said_of fm names w >>= λ s. or_else s UnknownLabel >>= λ b. on_base es o b 0) e h in
    let s = bind_ok (said_of fm names w.0) (λ s. or_else s UnknownLabel >>= λ b. on_base es o b 0) e w.2 in
    let b = bind_ok (or_else s.0 UnknownLabel) (λ b. on_base es o b 0) e s.2 in
    let old = and_parts (uses_base o && not (uses_other o)) (is_old fm o) own in
    let uses = and_parts (uses_base o) (not (uses_other o)) old.0 in
    on_base_follows before o b.0 0 e room uses.0 (not-true (uses_other o) uses.1) (or_right (uses_argument o) true refl) (le-leb 0 (most_number fm) (omega arith)) old.1 b.2
follows_with before names (syntax.Argument o) ws e room own h =
    let fm = before.form in
    let es = before.events in
    let p = bind_ok (or_else (only_two ws) WrongCount) (λ p. said_of fm names p.0 >>= λ s. number_of fm p.1 >>= λ x. or_else s UnknownLabel >>= λ b. on_base es o b x) e h in
    let s = bind_ok (said_of fm names p.0.0) (λ s. number_of fm p.0.1 >>= λ x. or_else s UnknownLabel >>= λ b. on_base es o b x) e p.2 in
    let x = bind_ok (number_of fm p.0.1) (λ x. or_else s.0 UnknownLabel >>= λ b. on_base es o b x) e s.2 in
    let b = bind_ok (or_else s.0 UnknownLabel) (λ b. on_base es o b x.0) e x.2 in
    let old = and_parts (uses_base o && not (uses_other o) && uses_argument o) (is_old fm o) own in
    let argument = and_parts (uses_base o && not (uses_other o)) (uses_argument o) old.0 in
    let uses = and_parts (uses_base o) (not (uses_other o)) argument.0 in
    on_base_follows before o b.0 x.0 e room uses.0 (not-true (uses_other o) uses.1) (rw argument.1 refl) (number_low fm p.0.1 x.0 x.1) old.1 b.2
follows_with before names (syntax.Other o) ws e room own h =
    let fm = before.form in
    let es = before.events in
    let p = bind_ok (or_else (only_two ws) WrongCount) (λ p. said_of fm names p.0 >>= λ s. said_of fm names p.1 >>= λ t. or_else s UnknownLabel >>= λ b. or_else t UnknownLabel >>= λ c. on_two es o b c) e h in
    let s = bind_ok (said_of fm names p.0.0) (λ s. said_of fm names p.0.1 >>= λ t. or_else s UnknownLabel >>= λ b. or_else t UnknownLabel >>= λ c. on_two es o b c) e p.2 in
    let t = bind_ok (said_of fm names p.0.1) (λ t. or_else s.0 UnknownLabel >>= λ b. or_else t UnknownLabel >>= λ c. on_two es o b c) e s.2 in
    let b = bind_ok (or_else s.0 UnknownLabel) (λ b. or_else t.0 UnknownLabel >>= λ c. on_two es o b c) e t.2 in
    let c = bind_ok (or_else t.0 UnknownLabel) (λ c. on_two es o b.0 c) e b.2 in
    let old = and_parts (uses_base o && uses_other o) (is_old fm o) own in
    let uses = and_parts (uses_base o) (uses_other o) old.0 in
    on_two_follows before o b.0 c.0 e room uses.0 uses.1 old.1 c.2

-- an event that was read may stand next
pub follows : (before : ScriptView) (names : Names) (first : List ℕ) (ws : List (List ℕ)) (e : Event) → event_at before names first ws ≡ Ok e → Follows before e
unfolding event_at
follows before names first ws e h =
    let fm = before.form in
    let room = bind_ok (check (ltb (length before.events) 200000) TooMany) (λ r. after_label fm names first ws >>= λ p. or_else (syntax_of fm p.0) UnknownWord >>= λ s. event_with before names s p.1) e h in
    let p = bind_ok (after_label fm names first ws) (λ p. or_else (syntax_of fm p.0) UnknownWord >>= λ s. event_with before names s p.1) e room.2 in
    let s = bind_ok (or_else (syntax_of fm p.0.0) UnknownWord) (λ s. event_with before names s p.0.1) e p.2 in
    follows_with before names s.0 p.0.1 e (ltb-true (length before.events) 200000 (check_ok (ltb (length before.events) 200000) TooMany room.0 room.1)) (syntax_own fm p.0.0 s.0 (or_else_ok (syntax_of fm p.0.0) UnknownWord s.0 s.1)) s.2

-- ---- scripts that grow

-- an event in a longer list
event_at_end : (es : List Event) (e f : Event) (i : ℕ) → event_of (es ++ e ∷ []) i ≡ Some f → ((i ≤ length es) × (event_of es i ≡ Some f)) ⊎ ((i ≡ suc (length es)) × (f ≡ e))
event_at_end es e f i h =
    elim (cases_lt (length es) i) [
      | inr low ↦ inl (omega arith, sym (event_of-append es (e ∷ []) i (omega arith)) ∙ h)
      | inl high ↦
          elim (cases_eq i (suc (length es))) [
            | inl same ↦ inr (same, last same)
            | inr other ↦ absurd (past i h (omega arith))
          ]
    ]
  where
    last : i ≡ suc (length es) → f ≡ e
    last same = let found = subst (λ n. event_of (es ++ e ∷ []) n ≡ Some f) same h in let is = event_of-last es e [] in cc

    past : (j : ℕ) → event_of (es ++ e ∷ []) j ≡ Some f → suc (length es) < j → ⊥
    past zero g l = absurd (omega arith)
    past (suc k) g l = let none = slice_get_past (es ++ e ∷ []) k (omega (arith, length-append es (e ∷ []))) in cc

pub writable_more : (s : ScriptView) (e : Event) → IsWritable s → Follows s e → IsWritable (events_with s e)
writable_more s e h f =
    record {
      script = record {
        few = let room = f.room in omega (arith, length-append s.events (e ∷ []));
        each = λ i d at. stands_more i d (event_at_end s.events e d i at);
      };
      in_form = λ i d at. elim (event_at_end s.events e d i at) [
        | inl old ↦ h.in_form i d old.1
        | inr new ↦ subst (λ x. is_in_form s.form x ≡ true) (sym new.1) f.in_form
      ];
    }
  where
    agree : (n : ℕ) → n ≤ suc (length s.events) → (p : ℕ) → p < n → event_of s.events p ≡ event_of (s.events ++ e ∷ []) p
    agree n l p m = sym (event_of-append s.events (e ∷ []) p (omega arith))

    stands_more : (i : ℕ) (d : Event) → ((i ≤ length s.events) × (event_of s.events i ≡ Some d)) ⊎ ((i ≡ suc (length s.events)) × (d ≡ e)) → is_event_at (event_of (s.events ++ e ∷ [])) i d ≡ true
    stands_more i d (inl old) = fits_agree (event_of s.events) (event_of (s.events ++ e ∷ [])) i d (agree i (let l = old.0 in omega arith)) (h.script.each i d old.1)
    stands_more i d (inr new) =
        subst (λ n. is_event_at (event_of (s.events ++ e ∷ [])) n d ≡ true) (sym new.0)
        (subst (λ x. is_event_at (event_of (s.events ++ e ∷ [])) (suc (length s.events)) x ≡ true) (sym new.1)
        (fits_agree (event_of s.events) (event_of (s.events ++ e ∷ [])) (suc (length s.events)) e (agree (suc (length s.events)) (omega arith)) f.fits))

pub writable_none : (form : Form) → IsWritable (record { form = form; events = [] })
writable_none form =
    record {
      script = record { few = omega arith; each = λ i d at. absurd (none i d at) };
      in_form = λ i d at. absurd (none i d at);
    }
  where
    none : (i : ℕ) (d : Event) → event_of [] i ≡ Some d → ⊥
    none zero d h = cc
    none (suc i) d h = cc

-- the kind of the next event
pub kind_next : (s : ScriptView) (e : Event) → Follows s e → kind_of (event_of (s.events ++ e ∷ [])) (suc (length s.events)) ≡ new_kind e.op (kind_of (event_of s.events) (event_name e.base))
kind_next s e f =
    let es = s.events in
    let base = base_below (event_of es) (length es) e f.fits in
    kind_is (event_of (es ++ e ∷ [])) (suc (length es)) e (event_of-last es e []) (stands (event_of es) (suc (length es)) e f.fits).smaller
    ∙ ap (new_kind e.op) (kind_of-append es (e ∷ []) (event_name e.base) (omega arith))

pub kind_of_new : (s : ScriptView) (e : Event) (k : Kind) → Follows s e → e.op ≡ ops.New k → Some k ≡ kind_of (event_of (s.events ++ e ∷ [])) (suc (length s.events))
kind_of_new s e k f is = sym (kind_next s e f ∙ ap (λ o. new_kind o (kind_of (event_of s.events) (event_name e.base))) is)

kept_kind : (o : Op) (of : Option Kind) → ((k : Kind) → o ≡ ops.New k → ⊥) → new_kind o of ≡ of
kept_kind (ops.New k) of other = absurd (other k refl)
kept_kind _ of other = refl

pub kind_of_base : (s : ScriptView) (e : Event) (k : Kind) → Follows s e → ((k : Kind) → e.op ≡ ops.New k → ⊥) → Some k ≡ kind_of (event_of s.events) (event_name e.base) → Some k ≡ kind_of (event_of (s.events ++ e ∷ [])) (suc (length s.events))
kind_of_base s e k f other is = is ∙ sym (kind_next s e f ∙ kept_kind e.op (kind_of (event_of s.events) (event_name e.base)) other)

-- the kinds of a list with one more event
pub kinds_more : (es : List Event) (ks : List Kind) (e : Event) (k : Kind) → AreKindsOf es ks → Some k ≡ kind_of (event_of (es ++ e ∷ [])) (suc (length es)) → AreKindsOf (es ++ e ∷ []) (ks ++ k ∷ [])
kinds_more es ks e k h is =
    record {
      many = let many = h.many in omega (arith, length-append es (e ∷ []), length-append ks (k ∷ []));
      each = λ i l. elim (cases_lt i (length es)) [
        | inl old ↦ let many = h.many in slice_get-append ks (k ∷ []) i (omega arith) ∙ (h.each i old ∙ sym (kind_of-append es (e ∷ []) (suc i) (omega arith)))
        | inr new ↦ let same : i ≡ length es = omega (arith, length-append es (e ∷ [])) in last i same
      ];
    }
  where
    last : (i : ℕ) → i ≡ length es → slice_get (ks ++ k ∷ []) i ≡ kind_of (event_of (es ++ e ∷ [])) (suc i)
    last i same =
        subst (λ n. slice_get (ks ++ k ∷ []) n ≡ kind_of (event_of (es ++ e ∷ [])) (suc n)) (sym same)
        (subst (λ n. slice_get (ks ++ k ∷ []) n ≡ kind_of (event_of (es ++ e ∷ [])) (suc (length es))) h.many (slice_get-last ks k [] ∙ is))
