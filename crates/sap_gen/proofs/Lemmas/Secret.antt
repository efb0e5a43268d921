-- A secret that becomes known, by hand on the file, and so on its theories.
use Rattle.std.proofs.Common.{ℕ, inl, inr, [], ◌∷◌, refl, arith, Contains}
use Rattle.sap_terms.specs.AdversaryFacts.{k_fact}
use Rattle.sap_terms.specs.Deduce.{IsDerived}
use Rattle.sap_terms.specs.Equal.{IsTheoryEqual}
use Rattle.sap_terms.specs.Equations.{equations}
use Rattle.sap_terms.specs.Laws.{LeavesAreNormal}
use Rattle.sap_terms.specs.Message.{IsMessage}
use Rattle.sap_terms.specs.Normal.{IsNormalForm}
use Rattle.sap_terms.specs.Signature.{Sig, HoldsBuiltins}
use Rattle.sap_terms.specs.Trace.{Trace}
use Rattle.sap_terms.specs.Tree.{Tree, fresh}
use Rattle.sap_terms.specs.declared.var.Sort.TheVariants.{Msg}
use Rattle.sap_formula.specs.Laws.{IsCheckedVisible}
use Rattle.sap_process.specs.ProcessSteps.{IsProcessTrace, ProcessRun, ProcessStep}
use Rattle.sap_gen.specs.Kept.{HoldsOfFile, HoldsOfTheory, file_theory, inlined_file_theory, inlined_file_lemma}
use Rattle.sap_gen.specs.LemmaExamples.{is_reached, never_known, secret, secret_file, sends_secret, some_secret, stays_secret}
use Rattle.sap_translate.specs.Members.{Member}
use Rattle.sap_gen.proofs.Lemmas.LemmaLaws.{LemmaLaws}
use Rattle.sap_gen.proofs.Lemmas.Theories.{IsSoundFile, theory_holds, inlined_theory_holds}

-- the file is sound

known_visible : (g : Sig) → IsCheckedVisible g never_known
known_visible g = ((inr (inl refl), (inl refl, tt)), ((refl, (refl, tt), refl), ((inl refl, tt), (refl, (refl, tt), refl))))

secret_visible : (g : Sig) → IsCheckedVisible g some_secret
secret_visible g = ((inr (inl refl), (inl refl, tt)), (refl, (refl, tt), refl))

pub secret_sound : (laws : LemmaLaws) (g : Sig) → HoldsBuiltins g → IsSoundFile (secret_file g)
secret_sound laws g hold = record {
  hold = hold;
  sound = laws.shown.parts g sends_secret (refl, ((refl, (Member.here, tt)), (Member.here, tt))) tt;
  over = (tt, ((refl, (tt, tt)), (tt, tt)));
  restrictions = tt;
  lemmas = (known_visible g, (secret_visible g, tt));
}

-- a run that makes the name 0, shows it as a secret and sends it, and whose adversary then shows it

abbrev name : Tree
name = fresh 0

name_form : (leaves : LeavesAreNormal) (g : Sig) → IsNormalForm (equations g) name name
name_form leaves g = record { equal = IsTheoryEqual.same; normal = leaves.of_fresh_name (equations g) 0 }

name_message : (leaves : LeavesAreNormal) (g : Sig) → IsMessage g Msg name
name_message leaves g = record { ground = tt; over = tt; normal = leaves.of_fresh_name (equations g) 0; sorted = refl }

abbrev pub leaking : Trace
leaking = (secret name ∷ []) ∷ (k_fact name ∷ []) ∷ []

no_name : Contains {X = ℕ} [] 0 → ⊥
no_name h = let l = h.1 in absurd (omega arith)

pub leaks : (leaves : LeavesAreNormal) (g : Sig) → IsProcessTrace g sends_secret leaking
leaks leaves g = (
  _,
  ProcessRun.further (ProcessRun.further (ProcessRun.further (ProcessRun.further ProcessRun.starts
      (ProcessStep.makes_name 0 0 refl (no_name, no_name)))
      (ProcessStep.shows {h = secret name} 0 refl (record { name = refl; persistent = refl; args = (name_form leaves g, tt) })))
      (ProcessStep.outputs {n = name} 0 refl (name_form leaves g)))
      (ProcessStep.knows name (record { deducible = record { form = name; is_form = name_form leaves g; earlier = []; derivation = (IsDerived.given (0, omega arith, refl), tt) }; normal = (name_form leaves g).normal })),
)

-- the verdicts on the file

pub file_fails : (leaves : LeavesAreNormal) (g : Sig) → HoldsOfFile (secret_file g) stays_secret → ⊥
file_fails leaves g h = h leaking (leaks leaves g) tt name (name_message leaves g) 0 (omega arith) (inl (refl, (IsTheoryEqual.same, tt))) (1, omega arith, inl (refl, (IsTheoryEqual.same, tt)))

pub file_reaches : (leaves : LeavesAreNormal) (g : Sig) → HoldsOfFile (secret_file g) is_reached
file_reaches leaves g = (leaking, leaks leaves g, tt, (name, name_message leaves g, (0, omega arith, inl (refl, (IsTheoryEqual.same, tt)))))

-- and so on its theories

pub theory_fails : (laws : LemmaLaws) (g : Sig) → HoldsBuiltins g → HoldsOfTheory (file_theory (secret_file g)) stays_secret → ⊥
theory_fails laws g hold h = file_fails laws.leaves g ((theory_holds laws (secret_file g) (secret_sound laws g hold) stays_secret (known_visible g)).1 h)

pub theory_reaches : (laws : LemmaLaws) (g : Sig) → HoldsBuiltins g → HoldsOfTheory (file_theory (secret_file g)) is_reached
theory_reaches laws g hold = (theory_holds laws (secret_file g) (secret_sound laws g hold) is_reached (secret_visible g)).0 (file_reaches laws.leaves g)

pub inlined_fails : (laws : LemmaLaws) (g : Sig) → HoldsBuiltins g → HoldsOfTheory (inlined_file_theory (secret_file g)) (inlined_file_lemma (secret_file g) stays_secret) → ⊥
inlined_fails laws g hold h = file_fails laws.leaves g ((inlined_theory_holds laws (secret_file g) (secret_sound laws g hold) stays_secret (known_visible g)).1 h)

pub inlined_reaches : (laws : LemmaLaws) (g : Sig) → HoldsBuiltins g → HoldsOfTheory (inlined_file_theory (secret_file g)) (inlined_file_lemma (secret_file g) is_reached)
inlined_reaches laws g hold = (inlined_theory_holds laws (secret_file g) (secret_sound laws g hold) is_reached (secret_visible g)).0 (file_reaches laws.leaves g)
