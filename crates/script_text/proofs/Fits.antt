-- When an event may stand under a name.
use Rattle.std.proofs.Common.{◌≡◌, ℕ, suc, ◌<◌, ◌^◌, eqb, Bool, true, false, not, ◌&&◌, ◌||◌, Option, Some, None, List, [], ◌∷◌, take, refl, sym, subst, ◌∙◌, arith, ◌⊎◌, inl, inr}
use Rattle.std.specs.List.{list_all}
use Rattle.std.specs.Str.{bytes_eq}
use Rattle.std.proofs.lemmas.Bool.{eqb-true, and_parts, and_from, lt-ltb, cases_Bool}
use Rattle.lazy_rec.specs.declared.events.Kind.{Kind}
use Rattle.lazy_rec.specs.declared.events.Op.{Op}
use Rattle.lazy_rec.specs.declared.events.Op.TheVariants as ops
use Rattle.lazy_rec.specs.declared.events.Event.{Event}
use Rattle.lazy_rec.specs.Tests.{is_some_and, implies}
use Rattle.lazy_rec.specs.Kinds.{bases_of, same_kind, belongs, is_split, is_trim, uses_base, uses_other, uses_argument}
use Rattle.lazy_rec.specs.History.{Events, event_name, is_second, kind_of, is_smaller, has_smaller_bases, has_kind_of_base, is_named_well, is_event_at}
use Rattle.lazy_rec.proofs.NumberLaws.{same_kind-eq, same_kind-refl}
use Rattle.lazy_rec.proofs.HistoryLaws.{StandsAt, stands, trim_parts, base_passes, other_passes, base-low, smaller-lt, smaller-pos, kind_of_agree}
use Rattle.script_text.specs.declared.words.Syntax.{Syntax}
use Rattle.script_text.specs.declared.words.Syntax.TheVariants as syntax
use Rattle.script_text.specs.Words.{look, operations, op_word, op_syntax}
use Rattle.script_text.specs.Events.{event}

-- a value that passes a test
pub some_passes : {X : Type 0} (P : X → Bool) (o : Option X) → is_some_and P o ≡ true → (x : X) × (o ≡ Some x) × (P x ≡ true)
some_passes P None h = cc
some_passes P (Some x) h = (x, refl, h)

-- how an operation stands in the table
pub record Shaped (as_syntax : Op → Syntax) (o : Op) (other argument : Bool) : Type 0 where
  pub is : op_syntax o ≡ as_syntax o
  pub found : look (op_word o) operations ≡ Some (as_syntax o)
  pub early : is_split o ≡ false → look (op_word o) (take 27 operations) ≡ Some (as_syntax o)
  pub base : uses_base o ≡ true
  pub others : uses_other o ≡ other
  pub arguments : uses_argument o ≡ argument

abbrev pub Shape : Op → Type 0
Shape o = ((k : Kind) × (o ≡ ops.New k)) ⊎ (Shaped syntax.Base o false false ⊎ (Shaped syntax.Argument o false true ⊎ Shaped syntax.Other o true false))

pub shape : (o : Op) → Shape o
shape (ops.New k) = inl (k, refl)
shape ops.Cons = inr (inr (inl (record { is = refl; found = refl; early = λ _. refl; base = refl; others = refl; arguments = refl })))
shape ops.Snoc = inr (inr (inl (record { is = refl; found = refl; early = λ _. refl; base = refl; others = refl; arguments = refl })))
shape ops.Insert = inr (inr (inl (record { is = refl; found = refl; early = λ _. refl; base = refl; others = refl; arguments = refl })))
shape ops.Pushl = inr (inr (inl (record { is = refl; found = refl; early = λ _. refl; base = refl; others = refl; arguments = refl })))
shape ops.Pushr = inr (inr (inl (record { is = refl; found = refl; early = λ _. refl; base = refl; others = refl; arguments = refl })))
shape ops.Nth = inr (inr (inl (record { is = refl; found = refl; early = λ _. refl; base = refl; others = refl; arguments = refl })))
shape ops.Take = inr (inr (inl (record { is = refl; found = refl; early = λ _. refl; base = refl; others = refl; arguments = refl })))
shape ops.Drop = inr (inr (inl (record { is = refl; found = refl; early = λ _. refl; base = refl; others = refl; arguments = refl })))
shape ops.Has = inr (inr (inl (record { is = refl; found = refl; early = λ _. refl; base = refl; others = refl; arguments = refl })))
shape ops.Remove = inr (inr (inl (record { is = refl; found = refl; early = λ _. refl; base = refl; others = refl; arguments = refl })))
shape ops.Upto = inr (inr (inl (record { is = refl; found = refl; early = λ _. refl; base = refl; others = refl; arguments = refl })))
shape ops.Split = inr (inr (inl (record { is = refl; found = refl; early = λ h. cc; base = refl; others = refl; arguments = refl })))
shape ops.Append = inr (inr (inr (record { is = refl; found = refl; early = λ _. refl; base = refl; others = refl; arguments = refl })))
shape ops.Meld = inr (inr (inr (record { is = refl; found = refl; early = λ _. refl; base = refl; others = refl; arguments = refl })))
shape ops.Concat = inr (inr (inr (record { is = refl; found = refl; early = λ _. refl; base = refl; others = refl; arguments = refl })))
shape _ = inr (inl (record { is = refl; found = refl; early = λ _. refl; base = refl; others = refl; arguments = refl }))

-- a syntax in the table says which fields its operation uses
abbrev pub is_own : Syntax → Bool
is_own syntax.New = true
is_own (syntax.Base o) = uses_base o && not (uses_other o)
is_own (syntax.Argument o) = uses_base o && not (uses_other o) && uses_argument o
is_own (syntax.Other o) = uses_base o && uses_other o

pub look_own : {X : Type 0} (P : X → Bool) (w : List ℕ) (rows : List (List ℕ × X)) (x : X) → list_all (λ row. P row.1) rows ≡ true → look w rows ≡ Some x → P x ≡ true
look_own P w [] x h e = cc
look_own P w (row ∷ rows) x h e =
    let parts = and_parts (P row.1) (list_all (λ row. P row.1) rows) h in
    elim (cases_Bool (bytes_eq w row.0)) [
      | inl here ↦ let found = rw here at e in let same : row.1 ≡ x = cc in subst (λ y. P y ≡ true) same parts.0
      | inr there ↦ look_own P w rows x parts.1 (rw there at e)
    ]

pub syntax_own : (w : List ℕ) (s : Syntax) → look w operations ≡ Some s → is_own s ≡ true
syntax_own w s h = look_own is_own w operations s refl h

-- the versions that an event uses pass a test
all_of_one : (test : ℕ → Bool) (o : Op) (b c : ℕ) → uses_base o ≡ true → uses_other o ≡ false → test b ≡ true → list_all test (bases_of o b c) ≡ true
all_of_one test o b c u v t = rw (u, v, t) refl

all_of_two : (test : ℕ → Bool) (o : Op) (b c : ℕ) → uses_base o ≡ true → uses_other o ≡ true → test b ≡ true → test c ≡ true → list_all test (bases_of o b c) ≡ true
all_of_two test o b c u v s t = rw (u, v, s, t) refl

pub stands_back : (E : Events) (n : ℕ) (e : Event) → StandsAt E n e → is_event_at E n e ≡ true
stands_back E n e h =
    and_from _ _
    (and_from _ _ (and_from _ _ (and_from (is_trim e) (has_smaller_bases n e) h.trim h.smaller) h.kinds) h.seconds)
    (lt-ltb e.arg (2 ^ 64) h.argument)

-- an earlier version whose kind has the operation
pub record HasBase (E : Events) (n : ℕ) (o : Op) (v : ℕ) : Type 0 where
  pub smaller : is_smaller n v ≡ true
  pub kind : Kind
  pub is : kind_of E (event_name v) ≡ Some kind
  pub has : belongs kind o ≡ true
  pub second : is_named_well E v ≡ true

pub base_low : (E : Events) (n : ℕ) (o : Op) (v : ℕ) → HasBase E n o v → event_name v < n
base_low E n o v h = smaller-lt n v h.smaller

pub base_pos : (E : Events) (n : ℕ) (o : Op) (v : ℕ) → HasBase E n o v → 0 < event_name v
base_pos E n o v h = smaller-pos n v h.smaller

-- the kinds of the base and of another version are one
kinds_fit : (E : Events) (o : Op) (b c x v : ℕ) (k j : Kind) → kind_of E (event_name b) ≡ Some k → kind_of E (event_name v) ≡ Some j → belongs j o ≡ true → same_kind j k ≡ true → has_kind_of_base E (event o b c x) v ≡ true
kinds_fit E o b c x v k j is is' has same =
    let test : Option Kind → Option Kind → Bool = λ p q. is_some_and (λ i. belongs i o && is_some_and (same_kind i) p) q in
    subst (λ p. test p (kind_of E (event_name v)) ≡ true) (sym is)
    (subst (λ q. test (Some k) q ≡ true) (sym is') (and_from _ _ has same))

pub fit_one : (E : Events) (n : ℕ) (o : Op) (b x : ℕ) → uses_base o ≡ true → uses_other o ≡ false → (uses_argument o || eqb x 0) ≡ true → x < 2 ^ 64 → HasBase E n o b → is_event_at E n (event o b 0 x) ≡ true
fit_one E n o b x u v w small h =
    stands_back E n (event o b 0 x) (record {
      trim = rw (u, v, w) refl;
      smaller = all_of_one (is_smaller n) o b 0 u v h.smaller;
      kinds = all_of_one (has_kind_of_base E (event o b 0 x)) o b 0 u v (kinds_fit E o b 0 x b h.kind h.kind h.is h.is h.has (same_kind-refl h.kind));
      seconds = all_of_one (is_named_well E) o b 0 u v h.second;
      argument = small;
    })

pub fit_two : (E : Events) (n : ℕ) (o : Op) (b c : ℕ) → uses_base o ≡ true → uses_other o ≡ true → (h : HasBase E n o b) → (g : HasBase E n o c) → same_kind h.kind g.kind ≡ true → is_event_at E n (event o b c 0) ≡ true
fit_two E n o b c u v h g same =
    let one = same_kind-eq h.kind g.kind same in
    let same' : same_kind g.kind h.kind ≡ true = subst (λ k. same_kind k h.kind ≡ true) one (same_kind-refl h.kind) in
    stands_back E n (event o b c 0) (record {
      trim = rw (u, v) (or_zero (uses_argument o));
      smaller = all_of_two (is_smaller n) o b c u v h.smaller g.smaller;
      kinds = all_of_two (has_kind_of_base E (event o b c 0)) o b c u v (kinds_fit E o b c 0 b h.kind h.kind h.is h.is h.has (same_kind-refl h.kind)) (kinds_fit E o b c 0 c h.kind g.kind h.is g.is g.has same');
      seconds = all_of_two (is_named_well E) o b c u v h.second g.second;
      argument = omega arith;
    })
  where
    or_zero : (a : Bool) → (a || true) ≡ true
    or_zero true = refl
    or_zero false = refl

-- what an event that may stand has
pub record FitsOne (E : Events) (n : ℕ) (o : Op) (b c x : ℕ) : Type 0 where
  pub base : HasBase E n o b
  pub other : c ≡ 0
  pub argument : (uses_argument o || eqb x 0) ≡ true
  pub small : x < 2 ^ 64

pub record FitsTwo (E : Events) (n : ℕ) (o : Op) (b c x : ℕ) : Type 0 where
  pub base : HasBase E n o b
  pub other : HasBase E n o c
  pub same : same_kind base.kind other.kind ≡ true
  pub argument : (uses_argument o || eqb x 0) ≡ true

-- a version that passes the tests of an event's bases
found : (E : Events) (n : ℕ) (o : Op) (b c x v : ℕ) → is_smaller n v ≡ true → has_kind_of_base E (event o b c x) v ≡ true → is_named_well E v ≡ true → HasBase E n o v
found E n o b c x v smaller kinds second =
    let k = some_passes (λ k. belongs k o && is_some_and (same_kind k) (kind_of E (event_name b))) (kind_of E (event_name v)) kinds in
    let has = and_parts (belongs k.0 o) (is_some_and (same_kind k.0) (kind_of E (event_name b))) k.2 in
    record { smaller = smaller; kind = k.0; is = k.1; has = has.0; second = second }

pub unfit_one : (E : Events) (n : ℕ) (o : Op) (b c x : ℕ) → uses_base o ≡ true → uses_other o ≡ false → is_event_at E n (event o b c x) ≡ true → FitsOne E n o b c x
unfit_one E n o b c x u v h =
    let e = event o b c x in
    let s = stands E n e h in
    let trim = trim_parts e s.trim in
    record {
      base = found E n o b c x b (base_passes (is_smaller n) e s.smaller u) (base_passes (has_kind_of_base E e) e s.kinds u) (base_passes (is_named_well E) e s.seconds u);
      other = eqb-true c 0 (let other = trim.other in rw v at other);
      argument = trim.argument;
      small = s.argument;
    }

pub unfit_two : (E : Events) (n : ℕ) (o : Op) (b c x : ℕ) → uses_base o ≡ true → uses_other o ≡ true → is_event_at E n (event o b c x) ≡ true → FitsTwo E n o b c x
unfolding found
unfit_two E n o b c x u v h =
    let e = event o b c x in
    let s = stands E n e h in
    let trim = trim_parts e s.trim in
    let kinds = other_passes (has_kind_of_base E e) e s.kinds v in
    let base = found E n o b c x b (base_passes (is_smaller n) e s.smaller u) (base_passes (has_kind_of_base E e) e s.kinds u) (base_passes (is_named_well E) e s.seconds u) in
    let other = found E n o b c x c (other_passes (is_smaller n) e s.smaller v) kinds (other_passes (is_named_well E) e s.seconds v) in
    let j = some_passes (λ k. belongs k o && is_some_and (same_kind k) (kind_of E (event_name b))) (kind_of E (event_name c)) kinds in
    let has = and_parts (belongs j.0 o) (is_some_and (same_kind j.0) (kind_of E (event_name b))) j.2 in
    let k = some_passes (same_kind j.0) (kind_of E (event_name b)) has.1 in
    let one : k.0 ≡ base.kind = let p = k.1 in let q = base.is in cc in
    let same : base.kind ≡ j.0 = sym one ∙ sym (same_kind-eq j.0 k.0 k.2) in
    record {
      base = base;
      other = other;
      same = subst (λ i. same_kind base.kind i ≡ true) same (same_kind-refl base.kind);
      argument = trim.argument;
    }

pub unfit_new : (E : Events) (n : ℕ) (k : Kind) (b c x : ℕ) → is_event_at E n (event (ops.New k) b c x) ≡ true → (b ≡ 0) × (c ≡ 0) × (x ≡ 0)
unfit_new E n k b c x h =
    let trim = trim_parts (event (ops.New k) b c x) (stands E n (event (ops.New k) b c x) h).trim in
    (eqb-true b 0 trim.base, eqb-true c 0 trim.other, eqb-true x 0 trim.argument)

-- two histories that agree below a name let the same events stand there
pub move_base : (E F : Events) (n : ℕ) (o : Op) (v : ℕ) → ((p : ℕ) → p < n → E p ≡ F p) → HasBase E n o v → HasBase F n o v
move_base E F n o v agree h =
    let low = base_low E n o v h in
    record {
      smaller = h.smaller;
      kind = h.kind;
      is = kind_of_agree F E (event_name v) (λ p l. sym (agree p (omega arith))) ∙ h.is;
      has = h.has;
      second = subst (λ (x : Option Event). implies (is_second v) (is_some_and (λ (e : Event). is_split e.op) x) ≡ true) (agree (event_name v) low) h.second;
    }

pub fits_agree : (E F : Events) (n : ℕ) (e : Event) → ((p : ℕ) → p < n → E p ≡ F p) → is_event_at E n e ≡ true → is_event_at F n e ≡ true
unfolding move_base
fits_agree E F n e agree h =
    elim (shape e.op) [
      | inl new ↦
          subst (λ o. is_event_at E n (event o e.base e.other e.arg) ≡ true → is_event_at F n (event o e.base e.other e.arg) ≡ true) (sym new.1) (λ fits. fits) h
      | inr (inl s) ↦
          let f = unfit_one E n e.op e.base e.other e.arg s.base s.others h in
          subst (λ c. is_event_at F n (event e.op e.base c e.arg) ≡ true) (sym f.other) (fit_one F n e.op e.base e.arg s.base s.others f.argument f.small (move_base E F n e.op e.base agree f.base))
      | inr (inr (inl s)) ↦
          let f = unfit_one E n e.op e.base e.other e.arg s.base s.others h in
          subst (λ c. is_event_at F n (event e.op e.base c e.arg) ≡ true) (sym f.other) (fit_one F n e.op e.base e.arg s.base s.others f.argument f.small (move_base E F n e.op e.base agree f.base))
      | inr (inr (inr s)) ↦
          let f = unfit_two E n e.op e.base e.other e.arg s.base s.others h in
          let zero_arg : e.arg ≡ 0 = eqb-true e.arg 0 (let argument = f.argument in rw s.arguments at argument) in
          subst (λ x. is_event_at F n (event e.op e.base e.other x) ≡ true) (sym zero_arg) (fit_two F n e.op e.base e.other s.base s.others (move_base E F n e.op e.base agree f.base) (move_base E F n e.op e.other agree f.other) f.same)
    ]

-- the base's name stands before the event; an event without a base has 0
pub base_below : (E : Events) (n : ℕ) (e : Event) → is_event_at E (suc n) e ≡ true → event_name e.base < suc n
base_below E n e h = let s = stands E (suc n) e h in base-low (suc n) e (omega arith) s.trim s.smaller

-- and one that isn't `new` has a base
pub base_above : (E : Events) (n : ℕ) (e : Event) → ((k : Kind) → e.op ≡ ops.New k → ⊥) → is_event_at E n e ≡ true → 0 < event_name e.base
base_above E n e other h = smaller-pos n e.base (base_passes (is_smaller n) e (stands E n e h).smaller (uses e.op other))
  where
    uses : (o : Op) → ((k : Kind) → o ≡ ops.New k → ⊥) → uses_base o ≡ true
    uses (ops.New k) other = absurd (other k refl)
    uses _ other = refl
