-- Traces of messages.
use Rattle.std.specs.Prelude.{◌≡◌, ℕ, true, false, List}
use Rattle.sap_formula.specs.Truth.{EachIn}
use Rattle.sap_translate.specs.relation.Shown.{ShowsAt}
use Rattle.sap_terms.specs.Message.{IsMessage}
use Rattle.sap_terms.specs.Reserved.{is_reserved}
use Rattle.sap_terms.specs.Signature.{Sig}
use Rattle.sap_terms.specs.Trace.{Trace}
use Rattle.sap_terms.specs.Tree.{Tree}
use Rattle.sap_terms.specs.declared.fact.Fact.{Fact}
use Rattle.sap_terms.specs.declared.var.Sort.TheVariants.{Msg}

-- each of these is a message
abbrev pub AreMessageTerms : Sig → List Tree → Type 0
AreMessageTerms g ts = EachIn (IsMessage g Msg) ts

-- the fact's arguments are messages, and where its name is reserved it is linear
pub record IsTidyFact (g : Sig) (f : Fact) : Type 0 where
  pub messages : AreMessageTerms g f.args
  pub linear : is_reserved f.name ≡ true → f.persistent ≡ false

-- so is each fact of the trace
abbrev pub IsTidyTrace : Sig → Trace → Type 0
IsTidyTrace g tr = (k : ℕ) (f : Fact) → ShowsAt tr k f → IsTidyFact g f
