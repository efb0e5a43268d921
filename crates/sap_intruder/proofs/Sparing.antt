-- A run without idle lines fills the short run.
use Rattle.std.proofs.Common.{◌≡◌, ℕ, List, [], ◌∷◌, ◌++◌, append-nil, append_assoc, map, refl, sym, ap, subst, ◌∙◌}
use Rattle.sap_terms.specs.Signature.{Sig}
use Rattle.sap_terms.specs.Trace.{Trace, shown}
use Rattle.sap_terms.specs.Tree.{Tree}
use Rattle.sap_derive.specs.Lines.{Give, no_lines, one_more, IsLine, writes, applies}
use Rattle.sap_derive.specs.declared.line.Line.{Line}
use Rattle.sap_derive.specs.declared.line.Line.TheVariants as derived
use Rattle.sap_process.specs.Configuration.{Config}
use Rattle.sap_process.specs.Proc.{Proc}
use Rattle.sap_runs.specs.Limits.{HasFewNodes}
use Rattle.sap_runs.specs.Marks.{Mark, marks_of}
use Rattle.sap_runs.specs.declared.process_step.PStep.{PStep}
use Rattle.sap_runs.specs.declared.process_step.PStep.TheVariants as line
use Rattle.sap_runs.specs.declared.short_step.SStep.{SStep}
use Rattle.sap_lines.specs.Lines.{IsProcessLine}
use Rattle.sap_intruder.specs.FilledRuns.{IsFilledRun, starts, finds, follows, IsLeftOut, AreFoundFor, none_found, all_found, line_step, IsSparingRun, begins, goes_on, SparingRunsFill}

line_left_out : (l : Line) → IsLeftOut (line_step l)
line_left_out (derived.Public a) = tt
line_left_out (derived.Apply f ks) = tt

-- a line of a derivation is possible in each configuration, and changes nothing but the entries
line_is : (g : Sig) (c : Config) (es : List Tree) (l : Line) (u : Tree) → IsLine g es l u → IsProcessLine g HasFewNodes c es (line_step l) [] [] c (es ++ u ∷ [])
line_is g c es _ _ (writes a) = IsProcessLine.writes a
line_is g c es _ _ (applies f ks us u free arity at form size) = IsProcessLine.applies f ks us u free arity at form size

-- lines that give these terms
pub are_given : (g : Sig) (c : Config) (es : List Tree) (s : SStep) (found : List Line) (given : List Tree) → AreFoundFor g c es s found given → Give g es found given
are_given g c es _ _ _ none_found = no_lines
are_given g c es _ _ _ (all_found asks is) = is.lines

pub mapped_more : {A B : Type 0} (f : A → B) (xs : List A) (x : A) → map f (xs ++ x ∷ []) ≡ map f xs ++ f x ∷ []
mapped_more f [] x = refl
mapped_more f (y ∷ xs) x = ap (λ zs. f y ∷ zs) (mapped_more f xs x)

module _ (g : Sig) (p : Proc) (ss : List SStep) (lines : List PStep) (c : Config) (es : List Tree) (tr : Trace) (marks : List Mark) (run : IsFilledRun g HasFewNodes p ss lines c es tr marks) where
  -- lines of a derivation, one after another
  lines_found : (ls : List Line) (us : List Tree) → Give g es ls us → IsFilledRun g HasFewNodes p ss (lines ++ map line_step ls) c (es ++ us) tr marks
  lines_found _ _ no_lines =
      subst (λ (xs : List PStep). IsFilledRun g HasFewNodes p ss xs c (es ++ []) tr marks) (sym (append-nil lines))
      (subst (λ (xs : List Tree). IsFilledRun g HasFewNodes p ss lines c xs tr marks) (sym (append-nil es)) run)
  lines_found _ _ (one_more ls us l u h s) =
      let next = finds (line_step l) (lines_found ls us h) (line_left_out l) (line_is g c (es ++ us) l u s) in
      let lines_are : (lines ++ map line_step ls) ++ line_step l ∷ [] ≡ lines ++ map line_step (ls ++ l ∷ []) =
      append_assoc lines (map line_step ls) (line_step l ∷ []) ∙ ap (λ xs. lines ++ xs) (sym (mapped_more line_step ls l)) in
      subst (λ (xs : List PStep). IsFilledRun g HasFewNodes p ss xs c (es ++ (us ++ u ∷ [])) tr marks) lines_are
      (subst (λ (xs : List Tree). IsFilledRun g HasFewNodes p ss ((lines ++ map line_step ls) ++ line_step l ∷ []) c xs tr marks) (append_assoc es us (u ∷ [])) next)

pub sparing_runs_fill : SparingRunsFill
sparing_runs_fill g p _ _ _ _ _ _ begins = starts
sparing_runs_fill g p _ _ _ _ _ _ (goes_on {ss = ss} {before = before} {c = c} {d = d} {es = es} {fs = fs} {tr = tr} {marks = marks} s step found given inner label run are fills is) =
    let so_far = sparing_runs_fill g p ss before c es tr marks run in
    let behind = lines_found g p ss before c es tr marks so_far found given (are_given g c es s found given are) in
    subst (λ (xs : List PStep). IsFilledRun g HasFewNodes p (ss ++ s ∷ []) xs d fs (tr ++ shown label) (marks ++ marks_of inner label)) (append_assoc before (map line_step found) (step ∷ []))
    (follows s step inner label behind fills is)
