-- One cause counts.
use Rattle.std.proofs.Common.{◌≡◌, ◌<◌, ℕ, List, Some, refl, sym, ap, ◌∙◌, ⊎_elim, arith, subst}
use Rattle.std.specs.Prelude.{slice_get, ◌==◌, if◌then◌else◌}
use Rattle.std.proofs.lemmas.Bool.{cases_order}
use Rattle.sap_terms.specs.Signature.{Sig}
use Rattle.sap_terms.specs.declared.var.Var.{Var}
use Rattle.sap_process.specs.declared.flaw.Flaw.{Flaw}
use Rattle.sap_process.specs.declared.flaw.Flaw.TheVariants.{BadFunction, ReservedVar, ReservedFact, FactClash, PatternDestructor, Unbound, Rebound, SortClash, ScopeFull}
use Rattle.sap_process.specs.Flaws.{IsFirstScopeFlaw, rank}
use Rattle.sap_process.specs.Proc.{Proc}
use Rattle.sap_process.specs.Sites.{Site, sites_in}
use Rattle.sap_macro.specs.Expansion.{plain, plain_bodies}
use Rattle.sap_macro.specs.Written.{Written, call, Definition}
use Rattle.sap_uses.specs.FaultCauses.{Holds, IsMacroCause, cause_rank}
use Rattle.sap_macro.specs.Seen.{seen}
use Rattle.sap_uses.specs.ScopeFlaws.{IsFirstFlawed, params_in_scope}
use Rattle.sap_uses.specs.declared.fault.MacroFault.{MacroFault}
use Rattle.sap_uses.specs.declared.fault.MacroFault.TheVariants.{Mem, Parameters, Arguments, TooMany, TooDeep, Large, Flawed}
use Rattle.sap_terms.proofs.PlainLaws.Numbers.{same_number}

-- one flaw of scope counts, at one place
abbrev OneScopeFlaw : Type 0
OneScopeFlaw = (g : Sig) (scope : List Var) (p : Proc) (w v : Flaw) (path other : List ℕ) → IsFirstScopeFlaw g scope p w path → IsFirstScopeFlaw g scope p v other → (w ≡ v) × (path ≡ other)

-- one definition, with one flaw, at one place
pub one_flawed : (one_scope_flaw : OneScopeFlaw) (g : Sig) (ds : List Definition) (p : Written) (n m : List ℕ) (w v : Flaw) (path other : List ℕ) → IsFirstFlawed g ds p n w path → IsFirstFlawed g ds p m v other
    → (n ≡ m) × (w ≡ v) × (path ≡ other)
one_flawed one_scope_flaw g ds p n m w v path other f h =
    let at_same : f.at ≡ h.at =
    same_number f.at h.at (λ l. h.first f.at l f.definition f.stands w path f.flawed) (λ l. f.first h.at l h.definition h.stands v other h.flawed) in
    let got : Some f.definition ≡ Some h.definition = sym f.stands ∙ ap (slice_get ds) at_same ∙ h.stands in
    let same : f.definition ≡ h.definition = cc in
    let both = one_scope_flaw g (params_in_scope h.definition) (seen h.definition.body) w v path other
    (subst (λ (d : Definition). IsFirstScopeFlaw g (params_in_scope d) (seen d.body) w path) same f.flawed.flaw) h.flawed.flaw in
    (sym f.name_is ∙ ap (λ (d : Definition). d.name) same ∙ h.name_is, both.0, both.1)

-- causes of one rank that hold are one
same_rank : (only : OneScopeFlaw) (g : Sig) (ds : List Definition) (p : Written) (e f : MacroFault) → cause_rank e ≡ cause_rank f → Holds g ds p e → Holds g ds p f → e ≡ f
same_rank only g ds p Mem f r h k = absurd h
same_rank only g ds p (Parameters x) Mem r h k = absurd (omega (arith, r))
same_rank only g ds p (Parameters x) (Parameters y) r h k = let got : Some x ≡ Some y = sym h ∙ k in let same : x ≡ y = cc in ap Parameters same
same_rank only g ds p (Parameters x) (Arguments y) r h k = absurd (omega (arith, r))
same_rank only g ds p (Parameters x) TooMany r h k = absurd (omega (arith, r))
same_rank only g ds p (Parameters x) TooDeep r h k = absurd (omega (arith, r))
same_rank only g ds p (Parameters x) (Large y) r h k = absurd (omega (arith, r))
same_rank only g ds p (Parameters x) (Flawed y yw yq) r h k = absurd (omega (arith, r))
same_rank only g ds p (Arguments x) Mem r h k = absurd (omega (arith, r))
same_rank only g ds p (Arguments x) (Parameters y) r h k = absurd (omega (arith, r))
same_rank only g ds p (Arguments x) (Arguments y) r h k = let got : Some x ≡ Some y = sym h ∙ k in let same : x ≡ y = cc in ap Arguments same
same_rank only g ds p (Arguments x) TooMany r h k = absurd (omega (arith, r))
same_rank only g ds p (Arguments x) TooDeep r h k = absurd (omega (arith, r))
same_rank only g ds p (Arguments x) (Large y) r h k = absurd (omega (arith, r))
same_rank only g ds p (Arguments x) (Flawed y yw yq) r h k = absurd (omega (arith, r))
same_rank only g ds p TooMany Mem r h k = absurd (omega (arith, r))
same_rank only g ds p TooMany (Parameters y) r h k = absurd (omega (arith, r))
same_rank only g ds p TooMany (Arguments y) r h k = absurd (omega (arith, r))
same_rank only g ds p TooMany TooMany r h k = refl
same_rank only g ds p TooMany TooDeep r h k = absurd (omega (arith, r))
same_rank only g ds p TooMany (Large y) r h k = absurd (omega (arith, r))
same_rank only g ds p TooMany (Flawed y yw yq) r h k = absurd (omega (arith, r))
same_rank only g ds p TooDeep Mem r h k = absurd (omega (arith, r))
same_rank only g ds p TooDeep (Parameters y) r h k = absurd (omega (arith, r))
same_rank only g ds p TooDeep (Arguments y) r h k = absurd (omega (arith, r))
same_rank only g ds p TooDeep TooMany r h k = absurd (omega (arith, r))
same_rank only g ds p TooDeep TooDeep r h k = refl
same_rank only g ds p TooDeep (Large y) r h k = absurd (omega (arith, r))
same_rank only g ds p TooDeep (Flawed y yw yq) r h k = absurd (omega (arith, r))
same_rank only g ds p (Large x) Mem r h k = absurd (omega (arith, r))
same_rank only g ds p (Large x) (Parameters y) r h k = absurd (omega (arith, r))
same_rank only g ds p (Large x) (Arguments y) r h k = absurd (omega (arith, r))
same_rank only g ds p (Large x) TooMany r h k = absurd (omega (arith, r))
same_rank only g ds p (Large x) TooDeep r h k = absurd (omega (arith, r))
same_rank only g ds p (Large x) (Large y) r h k = let got : Some x ≡ Some y = sym h ∙ k in let same : x ≡ y = cc in ap Large same
same_rank only g ds p (Large x) (Flawed y yw yq) r h k = absurd (omega (arith, r))
same_rank only g ds p (Flawed x xw xq) Mem r h k = absurd (omega (arith, r))
same_rank only g ds p (Flawed x xw xq) (Parameters y) r h k = absurd (omega (arith, r))
same_rank only g ds p (Flawed x xw xq) (Arguments y) r h k = absurd (omega (arith, r))
same_rank only g ds p (Flawed x xw xq) TooMany r h k = absurd (omega (arith, r))
same_rank only g ds p (Flawed x xw xq) TooDeep r h k = absurd (omega (arith, r))
same_rank only g ds p (Flawed x xw xq) (Large y) r h k = absurd (omega (arith, r))
same_rank only g ds p (Flawed x xw xq) (Flawed y yw yq) r h k =
    let one = one_flawed only g (plain_bodies call ds) (plain ds p) x y xw yw xq yq h k in
    λ i. Flawed (one.0 i) (one.1 i) (one.2 i)

pub one_cause : (only : OneScopeFlaw) (g : Sig) (ds : List Definition) (p : Written) (e f : MacroFault) → IsMacroCause g ds p e → IsMacroCause g ds p f → e ≡ f
one_cause only g ds p e f h k =
    same_rank only g ds p e f (same_number (cause_rank e) (cause_rank f) (λ l. k.first e l h.holds) (λ l. h.first f l k.holds)) h.holds k.holds
