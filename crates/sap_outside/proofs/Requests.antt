-- Requests that were made one behind another.
use Rattle.std.proofs.Common.{◌≡◌, ℕ, zero, suc, List, [], ◌∷◌, ◌++◌, length, Option, Some, None, refl, sym, ap, ◌∙◌, append_assoc}
use Rattle.std.specs.Prelude.{replicate}
use Rattle.std.proofs.lemmas.List.{append-nil}
use Rattle.sap_outside.specs.Requests.{Request, Requested}

-- none
pub requested_none : (asked : Option (List Request)) → Requested [] asked asked
requested_none None = refl
requested_none (Some made) = sym (append-nil made)

-- and some more
pub requested_both : (first more : List Request) (before mid after : Option (List Request)) → Requested first before mid → Requested more mid after
    → Requested (first ++ more) before after
requested_both first more None None after h k = k
requested_both first more None (Some mid) after h k = cc
requested_both first more (Some before) None None h k = tt
requested_both first more (Some before) None (Some after) h k = cc
requested_both first more (Some before) (Some mid) None h k = tt
requested_both first more (Some before) (Some mid) (Some after) h k = k ∙ ap (λ (made : List Request). made ++ more) h ∙ append_assoc before first more

-- one request for each of some things, and for one thing more
pub one_request_more : {A : Type 0} (r : Request) (xs : List A) (x : A) → replicate (length (xs ++ x ∷ [])) r ≡ replicate (length xs) r ++ r ∷ []
one_request_more r [] x = refl
one_request_more r (y ∷ xs) x = ap (λ (made : List Request). r ∷ made) (one_request_more r xs x)

pub replicate_one_more : (r : Request) (n : ℕ) → replicate (suc n) r ≡ replicate n r ++ r ∷ []
replicate_one_more r zero = refl
replicate_one_more r (suc n) = ap (λ (made : List Request). r ∷ made) (replicate_one_more r n)
