-- There is one answer.
use Rattle.std.proofs.Common.{◌≡◌, ℕ, List, [], ◌∷◌, ◌++◌, Some, sym, ap, subst, ◌∙◌, inl, inr}
use Rattle.lazy_rec.specs.declared.events.Event.{Event}
use Rattle.script_text.specs.declared.model.Form.{Form}
use Rattle.script_text.specs.declared.model.Reason.{Reason}
use Rattle.script_text.specs.Lines.{lines_of}
use Rattle.script_text.specs.Events.{ScriptView}
use Rattle.script_text.specs.Text.{EventLine, Before, Leads, IsEventOf, IsNoEvent, IsText, IsFirst, IsFirstFault, form_of, nothing, after, body}

-- a line is of one event, or for one reason of none
one_event : (b : Before) (l : EventLine) (e f : Event) → IsEventOf b l e → IsEventOf b l f → e ≡ f
one_event b l e f h k = cc

one_reason : (b : Before) (l : EventLine) (r s : Reason) → IsNoEvent b l r → IsNoEvent b l s → r ≡ s
one_reason b l r s h k = cc

event_or_fault : (b : Before) (l : EventLine) (e : Event) (r : Reason) → IsEventOf b l e → IsNoEvent b l r → ⊥
event_or_fault b l e r h k = cc

-- lines lead to one end
pub leads_one : (b : Before) (ls : List EventLine) (c d : Before) → Leads b ls c → Leads b ls d → c ≡ d
leads_one b [] c d h k = sym h ∙ k
leads_one b (l ∷ ls) c d h k =
    let one = one_event b l h.0 k.0 h.1 k.1 in
    leads_one (after b l h.0) ls c d h.2 (subst (λ e. Leads (after b l e) ls d) (sym one) k.2)

no_fault : (b : Before) (good : List EventLine) (bad : EventLine) (more : List EventLine) (c d : Before) (r : Reason) → Leads b good c → IsNoEvent c bad r → Leads b (good ++ bad ∷ more) d → ⊥
no_fault b [] bad more c d r h f k = event_or_fault b bad k.0 r k.1 (subst (λ x. IsNoEvent x bad r) (sym h) f)
no_fault b (g ∷ good) bad more c d r h f k =
    let one = one_event b g h.0 k.0 h.1 k.1 in
    no_fault (after b g h.0) good bad more c d r h.2 f (subst (λ e. Leads (after b g e) (good ++ bad ∷ more) d) (sym one) k.2)

one_fault : (b : Before) (good good' : List EventLine) (bad bad' : EventLine) (more more' : List EventLine) (c c' : Before) (r r' : Reason)
    → Leads b good c → IsNoEvent c bad r → Leads b good' c' → IsNoEvent c' bad' r' → good ++ bad ∷ more ≡ good' ++ bad' ∷ more' → (bad ≡ bad') × (r ≡ r')
one_fault b [] [] bad bad' more more' c c' r r' h f h' f' e =
    let same : bad ≡ bad' = cc in
    let p = subst (λ x. IsNoEvent x bad r) (sym h) f in
    let q = subst (λ l. IsNoEvent b l r') (sym same) (subst (λ x. IsNoEvent x bad' r') (sym h') f') in
    (same, one_reason b bad r r' p q)
one_fault b [] (g ∷ good') bad bad' more more' c c' r r' h f h' f' e =
    let same : bad ≡ g = cc in
    let p = subst (λ l. IsNoEvent b l r) same (subst (λ x. IsNoEvent x bad r) (sym h) f) in
    absurd (event_or_fault b g h'.0 r h'.1 p)
one_fault b (g ∷ good) [] bad bad' more more' c c' r r' h f h' f' e =
    let same : g ≡ bad' = cc in
    let p = subst (λ l. IsNoEvent b l r') (sym same) (subst (λ x. IsNoEvent x bad' r') (sym h') f') in
    absurd (event_or_fault b g h.0 r' h.1 p)
one_fault b (g ∷ good) (g' ∷ good') bad bad' more more' c c' r r' h f h' f' e =
    let same : g ≡ g' = cc in
    let rest : good ++ bad ∷ more ≡ good' ++ bad' ∷ more' = cc in
    let one = one_event b g h.0 h'.0 h.1 (subst (λ l. IsEventOf b l h'.0) (sym same) h'.1) in
    let k = subst (λ x. Leads (after b x h'.0) good' c') (sym same) h'.2 in
    one_fault (after b g h.0) good good' bad bad' more more' c c' r r' h.2 f (subst (λ x. Leads (after b g x) good' c') (sym one) k) f' rest

-- the form of a header is one
one_form : (bytes : List ℕ) (f g : Form) → form_of (lines_of bytes) ≡ Some f → form_of (lines_of bytes) ≡ Some g → f ≡ g
one_form bytes f g h k = cc

pub script_or_fault : (bytes : List ℕ) (s : ScriptView) (n : ℕ) (r : Reason) → IsText bytes s → IsFirstFault bytes n r → ⊥
script_or_fault bytes s n r h (inl f) = let p = h.header in let q = f.0 in cc
script_or_fault bytes s n r h (inr f) =
    let first = f.2 in
    let end : Before = record { script = s; labels = h.labels } in
    let k = subst (λ fm. Leads (nothing fm) (body bytes) end) (one_form bytes s.form f.0 h.header f.1) h.leads in
    no_fault (nothing f.0) first.good first.bad first.more first.before end r first.leads first.no_event (subst (λ ls. Leads (nothing f.0) ls end) first.split k)

pub one_script : (bytes : List ℕ) (s t : ScriptView) → IsText bytes s → IsText bytes t → s ≡ t
one_script bytes s t h k =
    let end : Before = record { script = s; labels = h.labels } in
    let end' : Before = record { script = t; labels = k.labels } in
    let k' = subst (λ fm. Leads (nothing fm) (body bytes) end') (one_form bytes t.form s.form k.header h.header) k.leads in
    ap (λ (b : Before). b.script) (leads_one (nothing s.form) (body bytes) end end' h.leads k')

-- the first fault is one
pub first_fault : (bytes : List ℕ) (l m : ℕ) (r s : Reason) → IsFirstFault bytes l r → IsFirstFault bytes m s → (l ≡ m) × (r ≡ s)
first_fault bytes l m r s (inl f) (inl g) = (f.1 ∙ sym g.1, f.2 ∙ sym g.2)
first_fault bytes l m r s (inl f) (inr g) = let p = f.0 in let q = g.1 in let no : ⊥ = cc in absurd no
first_fault bytes l m r s (inr f) (inl g) = let p = f.1 in let q = g.0 in let no : ⊥ = cc in absurd no
first_fault bytes l m r s (inr f) (inr g) =
    let a = f.2 in
    let b = subst (λ fm. IsFirst fm (body bytes) m s) (one_form bytes g.0 f.0 g.1 f.1) g.2 in
    let same = one_fault (nothing f.0) a.good b.good a.bad b.bad a.more b.more a.before b.before r s a.leads a.no_event b.leads b.no_event (sym a.split ∙ b.split) in
    (sym a.number ∙ (ap (λ (line : EventLine). line.number) same.0 ∙ b.number), same.1)
