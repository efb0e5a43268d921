-- Where a short run of rules stands: on facts without numbers, behind all that silent rules do.
use Rattle.std.specs.Prelude.{◌≡◌, ◌||◌, ℕ, Bool, not, List, ◌++◌, map, filter}
use Rattle.std.specs.Str.{bytes_eq}
use Rattle.sap_terms.specs.AdversaryFacts.{out_fact}
use Rattle.sap_terms.specs.FactNames.{fr_name, in_name, out_name}
use Rattle.sap_terms.specs.Signature.{Sig}
use Rattle.sap_terms.specs.Trace.{Trace}
use Rattle.sap_terms.specs.Tree.{Tree}
use Rattle.sap_terms.specs.declared.fact.Fact.{Fact}
use Rattle.sap_process.specs.Proc.{Proc}
use Rattle.sap_attacks.specs.Alike.{AreAlike}
use Rattle.sap_attacks.specs.Settling.{Use}
use Rattle.sap_attacks.specs.SilentUses.{SettlesTo}

-- where a short run of rules stands
pub record ShortState : Type 0 where
  -- the facts that stand, each as often as it does, in no order; names, inputs and outputs aren't among them
  pub facts : List Fact
  -- what was put out, and the adversary's own names
  pub known : List Tree
  -- the names that were drawn
  pub made : List ℕ
  -- the uses of silent rules, and of the one that starts the run, that no line has named, in no order
  pub unnamed : List Use
  -- what was shown, without empty times
  pub shown : Trace

-- the fact is a name that was made, an input or an output
abbrev pub is_passing : Fact → Bool
is_passing f = bytes_eq f.name fr_name || (bytes_eq f.name in_name || bytes_eq f.name out_name)

-- the others
abbrev pub lasting_of : List Fact → List Fact
lasting_of fs = filter (λ f. not (is_passing f)) fs

-- the outputs
abbrev pub outputs_of : List Fact → List Fact
outputs_of fs = filter (λ (f : Fact). bytes_eq f.name out_name) fs

-- the state, where these facts come and this is shown: they settle, and what they put out is known
pub record Adds (g : Sig) (W : Tree → Type 0) (p : Proc) (s : ShortState) (right : List Fact) (seen : Trace) (z : ShortState) : Type 0 where
  pub settled : List Fact
  pub uses : List Use
  pub settles : SettlesTo g W p right settled uses
  pub told : List Tree
  pub put_out : outputs_of settled ≡ map out_fact told
  pub becomes : z ≡ record { facts = s.facts ++ lasting_of settled; known = s.known ++ told; made = s.made; unnamed = s.unnamed ++ uses; shown = s.shown ++ seen }

-- two states are one but for the order of facts and of uses
pub record AreOneState (s z : ShortState) : Type 0 where
  pub facts : AreAlike s.facts z.facts
  pub known : s.known ≡ z.known
  pub made : s.made ≡ z.made
  pub unnamed : AreAlike s.unnamed z.unnamed
  pub shown : s.shown ≡ z.shown
