-- The theories of a file keep it, where its process is sound and its restrictions and lemmas are checked and visible.
use Rattle.std.proofs.Common.{◌<◌, ◌^◌, ◌↔◌, List, [], ◌∷◌, map, refl, arith}
use Rattle.std.specs.List.{AllZip}
use Rattle.sap_terms.specs.Signature.{HoldsBuiltins, Sig}
use Rattle.sap_formula.specs.Form.{LemmaForm}
use Rattle.sap_formula.specs.Laws.{IsCheckedVisible}
use Rattle.sap_formula.specs.Truth.{EachIn}
use Rattle.sap_locks.specs.Annotation.{IsAnnotation}
use Rattle.sap_process.specs.Proc.{Proc, node_count}
use Rattle.sap_process.specs.Ready.{IsReady}
use Rattle.sap_read.specs.Files.{FileContent, IsRunnable}
use Rattle.sap_restrict.specs.Inline.{formulas, inlined}
use Rattle.sap_gen.specs.Kept.{HoldsOfFile, HoldsOfTheory, IsKept, ShowsFile, KeepsFile, KeepsFileInlined, all_restrictions, file_theory, inlined_file_theory, inlined_file_lemma}
use Rattle.sap_translate.specs.Sound.{IsSound}
use Rattle.sap_translate.specs.relation.Spelled.{IsProcessOver}
use Rattle.sap_gen.proofs.Lemmas.Kept.{AreVisible, seen_from, seen_to, lemma_kept, inlined_kept}
use Rattle.sap_gen.proofs.Lemmas.LemmaLaws.{LemmaLaws}

-- what the proofs use of a file
pub record IsSoundFile (f : FileContent) : Type 0 where
  pub hold : HoldsBuiltins f.signature
  pub sound : IsSound f.signature f.process
  pub over : IsProcessOver f.signature f.process
  pub restrictions : AreVisible f.signature f.restrictions
  pub lemmas : EachIn (λ (l : LemmaForm). IsCheckedVisible f.signature l.formula) f.lemmas

-- what is said of processes that are ready
pub record ReadyLaws : Type 0 where
  pub sound : (g : Sig) (p q : Proc) → IsReady g p → node_count p < 2 ^ 64 → IsAnnotation p q → IsSound g q
  pub over : (g : Sig) (p q : Proc) → IsReady g p → IsAnnotation p q → IsProcessOver g q

pub runnable_sound : (laws : ReadyLaws) (f : FileContent) → IsRunnable f → IsSoundFile f
runnable_sound laws f run =
    let small : node_count run.process < 2 ^ 64 = omega (arith, run.small) in
    record {
      hold = run.builtins;
      sound = laws.sound f.signature run.process f.process run.ready small run.annotation;
      over = laws.over f.signature run.process f.process run.ready run.annotation;
      restrictions = run.restrictions;
      lemmas = run.lemmas;
    }

module _ (laws : LemmaLaws) (f : FileContent) (fine : IsSoundFile f) where
  shows : ShowsFile f (file_theory f)
  shows tr = (laws.shown.all f.signature f.process fine.hold fine.sound fine.over tr, laws.shown.only f.signature f.process fine.hold fine.sound fine.over tr)

  pub theory_holds : (l : LemmaForm) → IsCheckedVisible f.signature l.formula → HoldsOfFile f l ↔ HoldsOfTheory (file_theory f) l
  theory_holds l v = lemma_kept laws f.signature f.process fine.hold fine.sound fine.over f.restrictions fine.restrictions l.mode l.formula v

  pub inlined_theory_holds : (l : LemmaForm) → IsCheckedVisible f.signature l.formula → HoldsOfFile f l ↔ HoldsOfTheory (inlined_file_theory f) (inlined_file_lemma f l)
  inlined_theory_holds l v = inlined_kept laws f.signature f.process fine.hold fine.sound fine.over f.restrictions fine.restrictions l.mode l.formula v

  each_plain : (ls : List LemmaForm) → EachIn (λ (l : LemmaForm). IsCheckedVisible f.signature l.formula) ls → AllZip (IsKept f (file_theory f) (λ (l : LemmaForm). l.formula)) ls ls
  each_plain [] h = tt
  each_plain (l ∷ ls) h = (record { name = refl; attributes = refl; mode = refl; formula = refl; holds = theory_holds l h.0 }, each_plain ls h.1)

  each_inlined : (ls : List LemmaForm) → EachIn (λ (l : LemmaForm). IsCheckedVisible f.signature l.formula) ls → AllZip (IsKept f (inlined_file_theory f) (λ (l : LemmaForm). inlined l.mode (formulas (all_restrictions f)) l.formula)) ls (map (inlined_file_lemma f) ls)
  each_inlined [] h = tt
  each_inlined (l ∷ ls) h = (record { name = refl; attributes = refl; mode = refl; formula = refl; holds = inlined_theory_holds l h.0 }, each_inlined ls h.1)

  pub keeps_file : KeepsFile f (file_theory f)
  keeps_file = record {
    name = refl;
    signature = refl;
    restrictions = refl;
    shows = shows;
    shows_restricted = λ tr. (
      λ h. seen_from laws f.signature f.process fine.hold fine.sound fine.over f.restrictions fine.restrictions tr h.0 h.1,
      seen_to laws f.signature f.process fine.hold fine.sound fine.over f.restrictions fine.restrictions tr,
    );
    lemmas = each_plain f.lemmas fine.lemmas;
  }

  pub keeps_file_inlined : KeepsFileInlined f (inlined_file_theory f)
  keeps_file_inlined = record {
    name = refl;
    signature = refl;
    restrictions = refl;
    shows = shows;
    lemmas = each_inlined f.lemmas fine.lemmas;
  }
