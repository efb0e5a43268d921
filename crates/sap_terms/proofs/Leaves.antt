-- Variables and names are normal, and names are messages.
use Rattle.sap_terms.specs.Equations.{Equations, equations, IsInstance, first, second, symmetric, asymmetric, signing, revealing, revealed}
use Rattle.sap_terms.specs.Laws.{NamesAreMessages, LeavesAreNormal}
use Rattle.sap_terms.specs.Tree.{Tree, variable, public, fresh, apply}

-- a symbol heads the tree
abbrev IsApplied : Tree → Type 0
IsApplied (variable v) = ⊥
IsApplied (public n) = ⊥
IsApplied (fresh k) = ⊥
IsApplied (apply f ts) = Unit {0}

-- it does in each left side
left-applied : {e : Equations} {t r : Tree} → IsInstance e t r → IsApplied t
left-applied first = tt
left-applied second = tt
left-applied (symmetric h) = tt
left-applied (asymmetric h) = tt
left-applied (signing h) = tt
left-applied (revealing h) = tt
left-applied (revealed h) = tt

pub leaves_normal : LeavesAreNormal
leaves_normal = record {
  of_variable = λ e v b i. left-applied i;
  of_public_name = λ e n b i. left-applied i;
  of_fresh_name = λ e k b i. left-applied i;
  of_symbol = λ e f ts d n. (λ b i. d (record { args = ts; right = b; is_left = i }), n);
}

pub names_messages : NamesAreMessages
names_messages = record {
  public_name = λ g s n h. record { ground = tt; over = tt; normal = leaves_normal.of_public_name (equations g) n; sorted = h };
  fresh_name = λ g s k h. record { ground = tt; over = tt; normal = leaves_normal.of_fresh_name (equations g) k; sorted = h };
}
