-- Small files by hand: which theories keep them, and which don't.
use Rattle.std.proofs.Common.{◌≡◌, ℕ, List, [], ◌∷◌, Bool, true, false, inl, refl, sym, ap, arith}
use Rattle.std.specs.Prelude.{codes}
use Rattle.std.specs.Str.{bytes_eq}
use Rattle.sap_formula.specs.Form.{RestrictionForm, falsity, implies, negation, truth}
use Rattle.sap_formula.specs.declared.lemma.Mode.TheVariants.{AllTraces, ExistsTrace}
use Rattle.sap_process.specs.Proc.{nil}
use Rattle.sap_restrict.specs.Inline.{conjunction, formulas}
use Rattle.sap_restrict.specs.ReservedFacts.{init_fact}
use Rattle.sap_restrict.specs.Restrictions.{needed_restrictions}
use Rattle.sap_terms.specs.Signature.{HoldsBuiltins, Sig}
use Rattle.sap_translate.specs.Faithful.{IsShownBy}
use Rattle.sap_gen.specs.Kept.{KeepsFile, KeepsFileInlined, all_restrictions, file_theory, inlined_file_theory}
use Rattle.sap_gen.specs.KeptExamples.{anyway, ever, ever_of_some, ever_otherwise, ever_renamed, ever_with_attribute, over_signature, renamed, restricted_idle_file, small_file, with_lemmas, with_restrictions}
use Rattle.sap_gen.specs.LemmaExamples.{idle_file, sends_secret}
use Rattle.sap_gen.proofs.Lemmas.LemmaLaws.{LemmaLaws, ShownLaws}
use Rattle.sap_gen.proofs.Lemmas.Secret.{secret_sound}
use Rattle.sap_gen.proofs.Lemmas.Theories.{IsSoundFile, keeps_file, keeps_file_inlined}
use Rattle.sap_gen.proofs.Lemmas.Unseen.{file_never_starts, theory_starts}

small_sound : (laws : LemmaLaws) (g : Sig) → HoldsBuiltins g → IsSoundFile (small_file g)
small_sound laws g hold =
    let secret = secret_sound laws g hold in
    record { hold = hold; sound = secret.sound; over = secret.over; restrictions = (tt, tt); lemmas = (tt, tt) }

-- the name of the first restriction
abbrev first_name : List RestrictionForm → List ℕ
first_name [] = []
first_name (r ∷ rs) = r.name

-- whether there is a restriction, and a second one
abbrev is_one : List RestrictionForm → Bool
is_one [] = false
is_one (r ∷ rs) = true

abbrev is_second : List RestrictionForm → Bool
is_second [] = false
is_second (r ∷ rs) = is_one rs

differ : true ≡ false → ⊥
differ e = absurd (cc)

other_word : codes "Other" ≡ codes "Small" → ⊥
other_word e = differ (ap (bytes_eq (codes "Other")) e)

-- the theory

pub kept : (laws : LemmaLaws) (g : Sig) → HoldsBuiltins g → KeepsFile (small_file g) (file_theory (small_file g))
kept laws g hold = keeps_file laws (small_file g) (small_sound laws g hold)

pub other_name : (g : Sig) → KeepsFile (small_file g) (renamed (file_theory (small_file g))) → ⊥
other_name g keeps = other_word keeps.name

pub other_signature : (g h : Sig) → (h ≡ g → ⊥) → KeepsFile (small_file g) (over_signature (file_theory (small_file g)) h) → ⊥
other_signature g h other keeps = other keeps.signature

pub own_restriction_left_out : (g : Sig) → KeepsFile (small_file g) (with_restrictions (file_theory (small_file g)) (needed_restrictions sends_secret)) → ⊥
own_restriction_left_out g keeps = differ (sym (ap is_second keeps.restrictions))

pub own_restriction_first : (g : Sig) → KeepsFile (small_file g) (with_restrictions (file_theory (small_file g)) (anyway ∷ needed_restrictions sends_secret)) → ⊥
own_restriction_first g keeps = let e : codes "anyway" ≡ codes "sapic_init" = ap first_name keeps.restrictions in absurd (cc)

pub lemma_left_out : (g : Sig) → KeepsFile (small_file g) (with_lemmas (file_theory (small_file g)) []) → ⊥
lemma_left_out g keeps = keeps.lemmas

pub other_lemma_name : (g : Sig) → KeepsFile (small_file g) (with_lemmas (file_theory (small_file g)) (ever_renamed ∷ [])) → ⊥
other_lemma_name g keeps = let e : codes "always" ≡ codes "ever" = keeps.lemmas.0.name in absurd (cc)

pub other_attributes : (g : Sig) → KeepsFile (small_file g) (with_lemmas (file_theory (small_file g)) (ever_with_attribute ∷ [])) → ⊥
other_attributes g keeps = let e : codes "reuse" ∷ [] ≡ [] = keeps.lemmas.0.attributes in absurd (cc)

pub other_mode : (g : Sig) → KeepsFile (small_file g) (with_lemmas (file_theory (small_file g)) (ever_of_some ∷ [])) → ⊥
other_mode g keeps = let e : ExistsTrace ≡ AllTraces = keeps.lemmas.0.mode in absurd (cc)

pub other_formula : (g : Sig) → KeepsFile (small_file g) (with_lemmas (file_theory (small_file g)) (ever_otherwise ∷ [])) → ⊥
other_formula g keeps = let e : negation falsity ≡ truth = keeps.lemmas.0.formula in absurd (cc)

-- the rules start, and nothing that is seen shows it
pub hidden_restriction : (laws : ShownLaws) (g : Sig) → KeepsFile (restricted_idle_file g) (file_theory (restricted_idle_file g)) → ⊥
hidden_restriction laws g keeps =
    let shown : IsShownBy (file_theory (restricted_idle_file g)) [] = (
      (init_fact ∷ []) ∷ [],
      laws.starts g nil,
      ((λ k below m beneath both. omega (arith, below, beneath)), ((0, omega arith, inl (refl, tt)), tt)),
      refl,
    ) in
    ((keeps.shows_restricted []).1 shown).1.0.2

pub hidden_lemma : (laws : ShownLaws) (g : Sig) → HoldsBuiltins g → KeepsFile (idle_file g) (file_theory (idle_file g)) → ⊥
hidden_lemma laws g hold keeps = file_never_starts laws g hold (keeps.lemmas.0.holds.1 (theory_starts laws g))

-- the one whose lemmas carry the restrictions

pub kept_inlined : (laws : LemmaLaws) (g : Sig) → HoldsBuiltins g → KeepsFileInlined (small_file g) (inlined_file_theory (small_file g))
kept_inlined laws g hold = keeps_file_inlined laws (small_file g) (small_sound laws g hold)

pub inlined_other_name : (g : Sig) → KeepsFileInlined (small_file g) (renamed (inlined_file_theory (small_file g))) → ⊥
inlined_other_name g keeps = other_word keeps.name

pub inlined_other_signature : (g h : Sig) → (h ≡ g → ⊥) → KeepsFileInlined (small_file g) (over_signature (inlined_file_theory (small_file g)) h) → ⊥
inlined_other_signature g h other keeps = other keeps.signature

pub some_restriction : (g : Sig) → KeepsFileInlined (small_file g) (with_restrictions (inlined_file_theory (small_file g)) (anyway ∷ [])) → ⊥
some_restriction g keeps = differ (ap is_one keeps.restrictions)

pub plain_lemma : (g : Sig) → KeepsFileInlined (small_file g) (with_lemmas (inlined_file_theory (small_file g)) (ever ∷ [])) → ⊥
plain_lemma g keeps =
    let e : truth ≡ implies (conjunction (formulas (all_restrictions (small_file g)))) truth = keeps.lemmas.0.formula in
    absurd (cc)
