-- Files whose theories are spelled as they are printed.
use Rattle.std.specs.Prelude.{◌≡◌, ◌≤◌, ℕ, true, All}
use Rattle.sap_terms.specs.declared.limits.TheConstants.{MOST_ARITY, MOST_PROCESS_LEVELS}
use Rattle.sap_terms.specs.declared.signature.Symbol.{Symbol}
use Rattle.sap_terms.specs.Signature.{Sig, IsMap, HoldsSymbols, pairs_alone}
use Rattle.sap_terms.specs.Tree.{variable}
use Rattle.sap_formula.specs.Form.{RestrictionForm, LemmaForm}
use Rattle.sap_process.specs.Proc.{Proc, nil, parallel, replicated, act, test, lookup, level_count}
use Rattle.sap_grammar.specs.Words.{is_lower}
use Rattle.sap_grammar.specs.ByteWords.{IsName, IsContent}
use Rattle.sap_grammar.specs.Printable.{IsPrintableTerm}
pub use Rattle.sap_draft.specs.Printable.{IsPrintableAct, IsPrintableAction}
use Rattle.sap_statements.specs.Statements.{IsAttribute}
use Rattle.sap_statements.specs.Printable.{IsPrintableForm}
use Rattle.sap_read.specs.Files.{FileContent}
use Rattle.sap_read.specs.Occurring.{Any, ProcessNamesAre}

-- each action, comparison and lookup of the process can be printed
abbrev pub IsPrintableProcess : ℕ → Sig → Proc → Type 0
IsPrintableProcess most g nil = Unit {0}
IsPrintableProcess most g (parallel p q) = IsPrintableProcess most g p × IsPrintableProcess most g q
IsPrintableProcess most g (replicated p) = IsPrintableProcess most g p
IsPrintableProcess most g (act a p) = IsPrintableAction most g a × IsPrintableProcess most g p
IsPrintableProcess most g (test t u p q) =
    IsPrintableTerm most g t × IsPrintableTerm most g u × IsPrintableProcess most g p × IsPrintableProcess most g q
IsPrintableProcess most g (lookup t x p q) =
    IsPrintableTerm most g t × IsPrintableTerm most g (variable x) × IsPrintableProcess most g p × IsPrintableProcess most g q

-- the symbol can be declared
pub record IsDeclarable (most : ℕ) (s : Symbol) : Type 0 where
  pub lower : is_lower s.name ≡ true
  pub few : s.arity ≤ MOST_ARITY
  pub name : IsName most s.name

-- the restriction can be printed
pub record IsPrintableRestriction (most : ℕ) (g : Sig) (r : RestrictionForm) : Type 0 where
  pub name : IsName most r.name
  pub formula : IsPrintableForm most g r.formula

-- the lemma can be printed
pub record IsPrintableLemma (most : ℕ) (g : Sig) (l : LemmaForm) : Type 0 where
  pub name : IsName most l.name
  pub attributes : All IsAttribute l.attributes
  pub formula : IsPrintableForm most g l.formula

-- what the file tells can be printed with names of at most so many bytes, but for the names in its process, for which the second
-- number is meant, since those of variables may be new; and its process isn't too deep
pub record IsPrintableFile (most wide : ℕ) (f : FileContent) : Type 0 where
  pub name : IsName most f.name
  pub is_map : IsMap f.signature.symbols
  pub pairs : HoldsSymbols f.signature.symbols pairs_alone.symbols
  pub symbols : All (IsDeclarable most) f.signature.symbols
  pub process : IsPrintableProcess wide f.signature f.process
  pub contents : ProcessNamesAre Any (IsContent most) f.process
  pub levels : level_count f.process ≤ MOST_PROCESS_LEVELS
  pub restrictions : All (IsPrintableRestriction most f.signature) f.restrictions
  pub lemmas : All (IsPrintableLemma most f.signature) f.lemmas
