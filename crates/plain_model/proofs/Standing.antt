-- When an event may stand after others, by the kinds of these.
use denote.Enum.Bare.{sameb, same_true, same_false}
use Rattle.std.proofs.Common.{rules, ◌≡◌, ℕ, suc, ◌-◌, ◌<◌, ◌^◌, ltb, cond, Bool, true, false, not, ◌&&◌, Option, Some, None, List, length, refl, sym, ap, subst, ◌∙◌, arith, inl, inr}
use Rattle.std.specs.Prelude.{slice_get}
use Rattle.std.specs.List.{list_all}
use Rattle.std.proofs.lemmas.Bool.{true≢false, and_parts, and_from, ltb-true, lt-ltb, cases_lt}
use Rattle.std.proofs.lemmas.Option.{slice_get_past}
use Rattle.lazy_rec.specs.declared.events.Kind.{Kind}
use Rattle.lazy_rec.specs.contracts.events.Kind.{the_type}
use Rattle.lazy_rec.specs.declared.events.Op.{Op}
use Rattle.lazy_rec.specs.declared.events.Op.TheVariants as ops
use Rattle.lazy_rec.specs.declared.events.Event.{Event}
use Rattle.lazy_rec.specs.Tests.{is_some_and}
use Rattle.lazy_rec.specs.Kinds.{bases_of, same_kind, belongs, is_trim, uses_base, uses_other}
use Rattle.lazy_rec.specs.History.{Events, event_of, event_name, kind_of, kind_made, new_kind, is_smaller, has_smaller_bases, has_kind_of_base, is_named_well, is_event_at}
use Rattle.lazy_rec.proofs.NumberLaws.{same_kind-refl, some_kind}
use Rattle.lazy_rec.proofs.HistoryLaws.{StandsAt, stands, base_passes, other_passes, kind-if_base}
use Rattle.plain_model.specs.Scripts.{AreKinds, kind_used, kind_standing}

-- ---- options that a test lets through

none_if : {X : Type 0} (b : Bool) (o : Option X) → (b ≡ true → ⊥) → None ≡ cond b o None
none_if true o h = absurd (h refl)
none_if false o h = refl

pub value_if : {X : Type 0} (b : Bool) (o : Option X) → b ≡ true → o ≡ cond b o None
value_if true o h = refl
value_if false o h = absurd (true≢false (sym h))

pub if_value : {X : Type 0} (b : Bool) (o : Option X) (x : X) → cond b o None ≡ Some x → (b ≡ true) × (o ≡ Some x)
if_value true o x h = (refl, h)
if_value false o x h = cc

some_passes : {X : Type 0} (test : X → Bool) (o : Option X) → is_some_and test o ≡ true → (x : X) × (o ≡ Some x) × (test x ≡ true)
some_passes test None h = absurd (true≢false (sym h))
some_passes test (Some x) h = (x, refl, h)

-- ---- kinds that are compared

off : (b : Bool) → true ≡ not b → b ≡ false
off true h = absurd (true≢false h)
off false h = refl

on : (b : Bool) → false ≡ not b → b ≡ true
on true h = refl
on false h = absurd (true≢false (sym h))

pub kinds_differ : (j k : Kind) → true ≡ not (sameb the_type j k) → j ≡ k → ⊥
kinds_differ j k h = same_false the_type j k (off (sameb the_type j k) h)

pub kinds_agree : (j k : Kind) → false ≡ not (sameb the_type j k) → j ≡ k
kinds_agree j k h = same_true the_type (search rules) j k (on (sameb the_type j k) h)

-- ---- the versions that an event uses

uses : (op : Op) → ((k : Kind) → op ≡ ops.New k → ⊥) → uses_base op ≡ true
uses (ops.New k) other = absurd (other k refl)
uses _ other = refl

all_of_none : (test : ℕ → Bool) (op : Op) (b c : ℕ) → uses_base op ≡ false → list_all test (bases_of op b c) ≡ true
all_of_none test op b c u = rw u refl

all_of_one : (test : ℕ → Bool) (op : Op) (b c : ℕ) → uses_base op ≡ true → uses_other op ≡ false → test b ≡ true → list_all test (bases_of op b c) ≡ true
all_of_one test op b c u v t = rw (u, v, t) refl

all_of_two : (test : ℕ → Bool) (op : Op) (b c : ℕ) → uses_base op ≡ true → uses_other op ≡ true → test b ≡ true → test c ≡ true → list_all test (bases_of op b c) ≡ true
all_of_two test op b c u v s t = rw (u, v, s, t) refl

stands_back : (E : Events) (i : ℕ) (e : Event) → StandsAt E i e → is_event_at E i e ≡ true
stands_back E i e h =
    and_from _ _
    (and_from _ _ (and_from _ _ (and_from (is_trim e) (has_smaller_bases i e) h.trim h.smaller) h.kinds) h.seconds)
    (lt-ltb e.arg (2 ^ 64) h.argument)

-- ---- a version that an event may use

-- the version is of a smaller name, is no second version but of a split, and has this kind
record Used (E : Events) (i v : ℕ) (k : Kind) : Type 0 where
  smaller : is_smaller i v ≡ true
  named : is_named_well E v ≡ true
  kind : kind_of E (event_name v) ≡ Some k

used : (E : Events) (i v : ℕ) (k : Kind) → kind_used E i v ≡ Some k → Used E i v k
used E i v k h =
    let p = if_value (is_smaller i v && is_named_well E v) (kind_of E (event_name v)) k h in
    let q = and_parts (is_smaller i v) (is_named_well E v) p.0 in
    record { smaller = q.0; named = q.1; kind = p.1 }

used_back : (E : Events) (i v : ℕ) (k : Kind) → is_smaller i v ≡ true → is_named_well E v ≡ true → kind_of E (event_name v) ≡ Some k → kind_used E i v ≡ Some k
used_back E i v k s n h = sym (value_if (is_smaller i v && is_named_well E v) (kind_of E (event_name v)) (and_from _ _ s n)) ∙ h

has_kind : (E : Events) (e : Event) (v : ℕ) (k : Kind) → kind_of E (event_name e.base) ≡ Some k → kind_of E (event_name v) ≡ Some k → belongs k e.op ≡ true → has_kind_of_base E e v ≡ true
has_kind E e v k base its has =
    let test : Option Kind → Option Kind → Bool = λ p q. is_some_and (λ i. belongs i e.op && is_some_and (same_kind i) p) q in
    subst (λ p. test p (kind_of E (event_name v)) ≡ true) (sym base)
    (subst (λ q. test (Some k) q ≡ true) (sym its) (and_from _ _ has (same_kind-refl k)))

module _ (E : Events) (i : ℕ) (e : Event) where
  -- the kind of the base, where the event stands and has one
  base_of : StandsAt E i e → uses_base e.op ≡ true → (k : Kind) × (kind_used E i e.base ≡ Some k) × (belongs k e.op ≡ true)
  base_of h u =
      let found = some_passes _ (kind_of E (event_name e.base)) (base_passes (has_kind_of_base E e) e h.kinds u) in
      let used = used_back E i e.base found.0 (base_passes (is_smaller i) e h.smaller u) (base_passes (is_named_well E) e h.seconds u) found.1 in
      (found.0, used, (and_parts (belongs found.0 e.op) _ found.2).0)

  other_of : StandsAt E i e → uses_other e.op ≡ true → (k : Kind) → kind_used E i e.base ≡ Some k → kind_used E i e.other ≡ Some k
  other_of h u k base =
      let found = some_passes _ (kind_of E (event_name e.other)) (other_passes (has_kind_of_base E e) e h.kinds u) in
      let same : found.0 ≡ k =
      let l = some_kind found.0 (kind_of E (event_name e.base)) (and_parts (belongs found.0 e.op) _ found.2).1 in
      let k' = (used E i e.base k base).kind in
      cc in
      let its = subst (λ j. kind_of E (event_name e.other) ≡ Some j) same found.1 in
      used_back E i e.other k (other_passes (is_smaller i) e h.smaller u) (other_passes (is_named_well E) e h.seconds u) its

  -- ---- what is found of an event

  not_standing : (StandsAt E i e → ⊥) → None ≡ kind_standing E i e
  not_standing h = none_if (is_event_at E i e) (kind_made (kind_of E) (Some e)) (λ t. h (stands E i e t))

  standing : (k : Kind) → StandsAt E i e → kind_made (kind_of E) (Some e) ≡ Some k → Some k ≡ kind_standing E i e
  standing k h its = sym its ∙ value_if (is_event_at E i e) (kind_made (kind_of E) (Some e)) (stands_back E i e h)

  pub untrim : is_trim e ≡ false → None ≡ kind_standing E i e
  untrim h = not_standing (λ s. true≢false (sym s.trim ∙ h))

  pub new : e.arg < 2 ^ 64 → (k : Kind) → is_trim e ≡ true → e.op ≡ ops.New k → Some k ≡ kind_standing E i e
  new small k trim is =
      let none : uses_base e.op ≡ false = ap uses_base is in
      standing k
      (record {
        trim = trim;
        smaller = all_of_none (is_smaller i) e.op e.base e.other none;
        kinds = all_of_none (has_kind_of_base E e) e.op e.base e.other none;
        seconds = all_of_none (is_named_well E) e.op e.base e.other none;
        argument = small;
      })
      (ap (λ o. new_kind o (kind_of E (event_name e.base))) is)

  module _ (not_new : (k : Kind) → e.op ≡ ops.New k → ⊥) where
    pub no_base : kind_used E i e.base ≡ None → None ≡ kind_standing E i e
    no_base h = not_standing (λ s. let b = base_of s (uses e.op not_new) in let is = b.1 in cc)

    module _ (k : Kind) (base : kind_used E i e.base ≡ Some k) where
      pub not_of_kind : belongs k e.op ≡ false → None ≡ kind_standing E i e
      not_of_kind h = not_standing (λ s.
          let b = base_of s (uses e.op not_new) in
          let same : b.0 ≡ k = let is = b.1 in cc in
          true≢false (sym (subst (λ j. belongs j e.op ≡ true) same b.2) ∙ h))

      pub no_other : uses_other e.op ≡ true → kind_used E i e.other ≡ None → None ≡ kind_standing E i e
      no_other u h = not_standing (λ s. let is = other_of s u k base in cc)

      pub two_kinds : uses_other e.op ≡ true → (j : Kind) → kind_used E i e.other ≡ Some j → (j ≡ k → ⊥) → None ≡ kind_standing E i e
      two_kinds u j other h = not_standing (λ s. h (let is = other_of s u k base in cc))

      its_kind : kind_made (kind_of E) (Some e) ≡ Some k
      its_kind = kind-if_base e.op (kind_of E (event_name e.base)) (uses e.op not_new) ∙ (used E i e.base k base).kind

      module _ (small : e.arg < 2 ^ 64) (trim : is_trim e ≡ true) (has : belongs k e.op ≡ true) where
        pub on_one : uses_other e.op ≡ false → Some k ≡ kind_standing E i e
        on_one v =
            let u = uses e.op not_new in
            let b = used E i e.base k base in
            standing k
            (record {
              trim = trim;
              smaller = all_of_one (is_smaller i) e.op e.base e.other u v b.smaller;
              kinds = all_of_one (has_kind_of_base E e) e.op e.base e.other u v (has_kind E e e.base k b.kind b.kind has);
              seconds = all_of_one (is_named_well E) e.op e.base e.other u v b.named;
              argument = small;
            })
            its_kind

        pub on_two : uses_other e.op ≡ true → (j : Kind) → kind_used E i e.other ≡ Some j → j ≡ k → Some k ≡ kind_standing E i e
        on_two v j other same =
            let u = uses e.op not_new in
            let b = used E i e.base k base in
            let c = used E i e.other k (other ∙ ap Some same) in
            standing k
            (record {
              trim = trim;
              smaller = all_of_two (is_smaller i) e.op e.base e.other u v b.smaller c.smaller;
              kinds = all_of_two (has_kind_of_base E e) e.op e.base e.other u v (has_kind E e e.base k b.kind b.kind has) (has_kind E e e.other k b.kind c.kind has);
              seconds = all_of_two (is_named_well E) e.op e.base e.other u v b.named c.named;
              argument = small;
            })
            its_kind

-- ---- the kind of a version is read off the kinds so far

pub used-at : (events : List Event) (kinds : List Kind) (v : ℕ) → AreKinds events kinds → 0 < event_name v → is_named_well (event_of events) v ≡ true → slice_get kinds (event_name v - 1) ≡ kind_used (event_of events) (suc (length kinds)) v
used-at events kinds v known pos named = elim (cases_lt (event_name v - 1) (length kinds)) [
  | inl low ↦
      let name : suc (event_name v - 1) ≡ event_name v = omega arith in
      let smaller : is_smaller (suc (length kinds)) v ≡ true = and_from _ _ (lt-ltb 0 (event_name v) pos) (lt-ltb (event_name v) (suc (length kinds)) (omega arith)) in
      known.each (event_name v - 1) low
      ∙ ap (kind_of (event_of events)) name
      ∙ value_if (is_smaller (suc (length kinds)) v && is_named_well (event_of events) v) (kind_of (event_of events) (event_name v)) (and_from _ _ smaller named)
  | inr high ↦
      slice_get_past kinds (event_name v - 1) high
      ∙ none_if (is_smaller (suc (length kinds)) v && is_named_well (event_of events) v) (kind_of (event_of events) (event_name v)) (λ t.
      let smaller = (and_parts (is_smaller (suc (length kinds)) v) (is_named_well (event_of events) v) t).0 in
      let low = ltb-true (event_name v) (suc (length kinds)) (and_parts (ltb 0 (event_name v)) (ltb (event_name v) (suc (length kinds))) smaller).1 in
      omega arith)
]
