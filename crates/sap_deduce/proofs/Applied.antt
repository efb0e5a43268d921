-- A symbol on entries, through the table.
use Rattle.std.proofs.Common.{◌≡◌, ℕ, List, length, Some, subst}
use Rattle.sap_terms.specs.Tree.{Tree, apply, trees_of}
use Rattle.sap_terms.specs.Signature.{Sig, IsPublic, arity_of}
use Rattle.sap_terms.specs.Equations.{equations}
use Rattle.sap_terms.specs.Normal.{IsNormalForm}
use Rattle.sap_terms.specs.declared.limits.TheConstants.{MOST_TERM_NODES}
use Rattle.sap_rewrite.specs.Large.{HasLargeForm}
use Rattle.sap_deduce.specs.declared.deny.Deny.{Deny}
use Rattle.sap_deduce.specs.declared.deny.Deny.TheVariants.{Mem, NotPublic, Arity, NoEntry, TermLarge}
use Rattle.sap_deduce.specs.Entries.{Entries, IsApplication, IsCause, AreTermsAt}
use Rattle.sap_deduce.specs.code.Large.{IsLargeOn}

-- what is asked of the symbol and the numbers of what it stands on
pub record Stands (k : Entries) (f ns : List ℕ) (us : List Tree) : Type 0 where
  pub symbol : IsPublic k.sig f
  pub arity : arity_of k.sig f ≡ Some (length ns)
  pub terms : AreTermsAt k.entries ns us

-- the normal form of the symbol on them is its application to the entries
pub is-application : (g : Sig) (k : Entries) (f ns : List ℕ) (us : List Tree) (t : Tree) → g ≡ k.sig → Stands k f ns us → IsNormalForm (equations g) (apply f (trees_of us)) t → IsApplication k.sig k.entries f ns t
is-application g k f ns us t same s form = record {
  args = us;
  public_symbol = s.symbol;
  arity = s.arity;
  at_numbers = s.terms;
  form = subst (λ h. IsNormalForm (equations h) (apply f (trees_of us)) t) same form;
}

-- why it is refused
pub is-cause : (g : Sig) (k : Entries) (f ns : List ℕ) (us : List Tree) (e : Deny) → g ≡ k.sig → Stands k f ns us → IsLargeOn (HasLargeForm (equations g) MOST_TERM_NODES (apply f (trees_of us))) e → IsCause k f ns e
is-cause g k f ns us Mem same s large = tt
is-cause g k f ns us TermLarge same s large = (large.form, is-application g k f ns us large.form same s large.is_form, large.large)
is-cause g k f ns us (NotPublic n) same s large = absurd large
is-cause g k f ns us (Arity n) same s large = absurd large
is-cause g k f ns us (NoEntry n) same s large = absurd large
