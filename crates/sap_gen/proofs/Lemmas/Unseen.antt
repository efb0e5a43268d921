-- Where a lemma speaks of a hidden fact, it may hold of the theory and fail of the file.
use Rattle.std.proofs.Common.{◌≡◌, false, inl, [], ◌∷◌, refl, sym, ap, subst, arith, ◌∙◌}
use Rattle.sap_formula.specs.Hide.{is_hidden}
use Rattle.sap_formula.specs.Truth.{AnyIn, Shows, facts_at}
use Rattle.sap_process.specs.Proc.{nil}
use Rattle.sap_restrict.specs.ReservedFacts.{init_fact}
use Rattle.sap_terms.specs.Equations.{equations}
use Rattle.sap_terms.specs.Signature.{Sig, HoldsBuiltins}
use Rattle.sap_terms.specs.Tree.{variable}
use Rattle.sap_terms.specs.declared.fact.Fact.{Fact}
use Rattle.sap_gen.specs.Kept.{HoldsOfFile, HoldsOfTheory, file_theory}
use Rattle.sap_gen.specs.LemmaExamples.{idle_file, starts}
use Rattle.sap_gen.proofs.Lemmas.Hiding.{Seen, none_has, seen_time}
use Rattle.sap_gen.proofs.Lemmas.LemmaLaws.{ShownLaws}

-- no trace of the process shows a start: it is what is seen of a full trace, where starts are hidden

abbrev IsStart : Sig → Fact → Type 0
IsStart g f = Shows (equations g) (λ v. variable v) init_fact f

never_seen : (g : Sig) (f : Fact) → Seen (IsStart g) f → ⊥
never_seen g f h = let t = ap is_hidden h.0.0 in absurd (let z : false ≡ is_hidden init_fact.name = sym h.1 ∙ sym t in cc)

pub file_never_starts : (laws : ShownLaws) (g : Sig) → HoldsBuiltins g → HoldsOfFile (idle_file g) starts → ⊥
file_never_starts laws g hold h =
    let w = laws.all g nil hold (laws.parts g nil tt tt) tt h.0 h.1 in
    let seen = seen_time (IsStart g) w.0 h.3.0 (subst (λ tr. AnyIn (IsStart g) (facts_at tr h.3.0)) (sym w.3) h.3.2) in
    none_has (Seen (IsStart g)) (facts_at w.0 seen.0) (never_seen g) seen.1

-- a run of the rules that starts
pub theory_starts : (laws : ShownLaws) (g : Sig) → HoldsOfTheory (file_theory (idle_file g)) starts
theory_starts laws g = ((init_fact ∷ []) ∷ [], laws.starts g nil, (λ k below m beneath both. omega (arith, below, beneath), tt), (0, omega arith, inl (refl, tt)))
