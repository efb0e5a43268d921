-- Which word of a file is the first name of a process that nothing before it defines.
use Rattle.std.specs.Prelude.{◌≡◌, ℕ, ◌+◌, Bool, not, List, [], ◌∷◌, ◌++◌, Option, None}
use Rattle.std.specs.List.{find}
use Rattle.sap_text.specs.declared.token.Token.{Token}
use Rattle.sap_grammar.specs.Cut.{Placed}
use Rattle.sap_macro.specs.Located.{Located, nil_at, call_at, parallel_at, replicated_at, act_at, test_at, lookup_at}
use Rattle.sap_read.specs.Causes.{first_of, is_among, listed}
use Rattle.sap_read.specs.Files.{IsParted}
use Rattle.sap_read.specs.Item.{Standing, signature_of}
use Rattle.sap_read.specs.ItemGrammar.{AreItems}
use Rattle.sap_read.specs.LocatedItems.{LocatedBody, located_bodies}

-- a name of a process where it is used, and how many words of the file are left from it
pub record UsedName : Type 0 where
  pub name : List ℕ
  pub word : ℕ

-- those in a process behind whose item so many words of the file are, from left to right
abbrev pub calls_at : ℕ → Located → List UsedName
calls_at n (nil_at k) = []
calls_at n (call_at k f ts) = record { name = f; word = k + n } ∷ []
calls_at n (parallel_at k p q) = calls_at n p ++ calls_at n q
calls_at n (replicated_at k p) = calls_at n p
calls_at n (act_at k a p) = calls_at n p
calls_at n (test_at k t u p q) = calls_at n p ++ calls_at n q
calls_at n (lookup_at k t x p q) = calls_at n p ++ calls_at n q

-- it isn't one of these names
abbrev pub is_not_among : List (List ℕ) → UsedName → Bool
is_not_among known u = not (is_among known u.name)

-- the first name that an item uses and no item before it defines, where these are defined already
abbrev pub first_undefined : List (List ℕ) → List LocatedBody → Option UsedName
first_undefined known [] = None
first_undefined known (b ∷ bs) =
    first_of (find (is_not_among known) (calls_at b.behind b.content) ∷ first_undefined (known ++ listed b.label) bs ∷ [])

-- the bytes are a file of these tokens whose items say these of processes
pub record HasBodies (z : List ℕ) (ts : List Token) (bs : List LocatedBody) : Type 0 where
  pub name : List ℕ
  pub cut : List (List Placed)
  pub standing : List Standing
  pub parted : IsParted z ts name cut
  pub items : AreItems (signature_of standing) cut standing
  pub bodies_are : bs ≡ located_bodies items
