-- The symbols by which terms are taken apart.
use Rattle.std.specs.Prelude.{◌≡◌, ℕ, Bool, true, List, Option, Some, None, IsTrue}
use Rattle.sap_terms.specs.Signature.{Sig}
use Rattle.sap_terms.specs.Equations.{equations, fst_name, snd_name, sdec_name, adec_name, get_message_name}
use Rattle.sap_derive.specs.code.Clauses.{CanApply}
use Rattle.sap_derive.specs.declared.openers.Openers.{Openers}

-- the name, where it can be applied and is switched on
abbrev pub IsOpener : Sig → List ℕ → ℕ → Bool → Option (List ℕ) → Type 0
IsOpener g name count on None = ¬ (IsTrue on × CanApply g name count)
IsOpener g name count on (Some n) = (n ≡ name) × IsTrue on × CanApply g name count

pub record AreOpeners (g : Sig) (o : Openers) : Type 0 where
  pub first : IsOpener g fst_name 1 true o.first
  pub second : IsOpener g snd_name 1 true o.second
  pub decrypts : IsOpener g sdec_name 2 (equations g).symmetric o.decrypts
  pub decrypts_by_secret : IsOpener g adec_name 2 (equations g).asymmetric o.decrypts_by_secret
  pub reads : IsOpener g get_message_name 1 (equations g).revealing o.reads
