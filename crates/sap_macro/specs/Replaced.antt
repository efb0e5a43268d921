-- Names of processes, replaced by what they stand for, where no definition has parameters.
use Rattle.std.specs.Prelude.{◌≡◌, ℕ, List, [], ◌∷◌, if◌then◌else◌}
use Rattle.std.specs.Str.{bytes_eq}
use Rattle.sap_process.specs.Proc as whole
use Rattle.sap_process.specs.Proc.{Proc}
use Rattle.sap_macro.specs.Written.{Written, nil, call, parallel, replicated, act, test, lookup, Definition}

-- what names of processes stand for
abbrev pub Stands : Type 0
Stands = List ℕ → Proc

-- the process, where each name is replaced by what it stands for
abbrev pub replaced : Stands → Written → Proc
replaced s nil = whole.nil
replaced s (call f ts) = s f
replaced s (parallel p q) = whole.parallel (replaced s p) (replaced s q)
replaced s (replicated p) = whole.replicated (replaced s p)
replaced s (act a p) = whole.act a (replaced s p)
replaced s (test t u p q) = whole.test t u (replaced s p) (replaced s q)
replaced s (lookup t x p q) = whole.lookup t x (replaced s p) (replaced s q)

-- what they stand for where nothing is defined: `0`
abbrev pub nothing_stands : Stands
nothing_stands f = whole.nil

-- what they stand for behind one more definition
abbrev pub with_standing : Stands → Definition → Stands
with_standing s d f = if bytes_eq d.name f then replaced s d.body else s f

-- the process behind these definitions, where names stand for this before them; in each body a name stands for what the
-- definitions before it say
abbrev pub process_of : Stands → List Definition → Written → Proc
process_of s [] p = replaced s p
process_of s (d ∷ ds) p = process_of (with_standing s d) ds p

-- no definition has parameters
abbrev pub AreWithoutParameters : List Definition → Type 0
AreWithoutParameters [] = Unit {0}
AreWithoutParameters (d ∷ ds) = (d.params ≡ []) × AreWithoutParameters ds
