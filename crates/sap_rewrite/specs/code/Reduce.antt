-- Normal forms by one pass from the leaves, as the code makes them.
use Rattle.std.specs.Prelude.{ℕ, List, ◌&&◌, Option, Some, None, option_map, unwrap_or, slice_get}
use Rattle.std.specs.Str.{bytes_eq}
use Rattle.sap_terms.specs.Tree.{Tree, variable, public, fresh, apply, Trees, none, more, list_of}
use Rattle.sap_terms.specs.Equations.{Equations, pair_name, fst_name, snd_name, sdec_name, adec_name, sign_name, verify_name, reveal_sign_name, reveal_verify_name, get_message_name}
use Rattle.sap_parts.specs.Parts.{guard, first_part, second_part, opened, opened_by_key, verified}

-- the first value that is there
abbrev pub or_else : {A : Type 0} → Option A → Option A → Option A
or_else None o = o
or_else (Some x) o = Some x

-- what each equation makes of a symbol on trees
abbrev pub by_first : List ℕ → Trees → Option Tree
by_first f ts = guard (bytes_eq f fst_name) (first_part pair_name ts)

abbrev pub by_second : List ℕ → Trees → Option Tree
by_second f ts = guard (bytes_eq f snd_name) (second_part ts)

abbrev pub by_symmetric : Equations → List ℕ → Trees → Option Tree
by_symmetric e f ts = guard (bytes_eq f sdec_name && e.symmetric) (opened ts)

abbrev pub by_asymmetric : Equations → List ℕ → Trees → Option Tree
by_asymmetric e f ts = guard (bytes_eq f adec_name && e.asymmetric) (opened_by_key ts)

abbrev pub by_signing : Equations → List ℕ → Trees → Option Tree
by_signing e f ts = guard (bytes_eq f verify_name && e.signing) (verified sign_name ts)

abbrev pub by_revealing : Equations → List ℕ → Trees → Option Tree
by_revealing e f ts = guard (bytes_eq f reveal_verify_name && e.revealing) (verified reveal_sign_name ts)

abbrev pub by_revealed : Equations → List ℕ → Trees → Option Tree
by_revealed e f ts = guard (bytes_eq f get_message_name && e.revealing) (first_part reveal_sign_name ts)

-- the part of the first argument that an equation leaves
abbrev pub by_part : Equations → List ℕ → Trees → Option Tree
by_part e f ts = or_else (or_else (or_else (or_else (by_first f ts) (by_second f ts)) (by_symmetric e f ts)) (by_asymmetric e f ts)) (by_revealed e f ts)

-- true, where a check of a signature holds
abbrev pub by_check : Equations → List ℕ → Trees → Option Tree
by_check e f ts = or_else (by_signing e f ts) (by_revealing e f ts)

-- the right side of the equation whose left side the symbol on these trees is
abbrev pub contracted : Equations → List ℕ → Trees → Option Tree
contracted e f ts = or_else (by_part e f ts) (by_check e f ts)

-- the symbol on these trees, which are normal, made normal
abbrev pub reduced : Equations → List ℕ → Trees → Tree
reduced e f ts = unwrap_or (contracted e f ts) (apply f ts)

unfoldable mutual
  -- the normal form of a tree
  pub nf : Equations → Tree → Tree
  nf e (variable v) = variable v
  nf e (public n) = public n
  nf e (fresh k) = fresh k
  nf e (apply f ts) = reduced e f (nfs e ts)

  -- those of these trees
  pub nfs : Equations → Trees → Trees
  nfs e none = none
  nfs e (more t ts) = more (nf e t) (nfs e ts)

-- the part at place k of the first tree
abbrev pub inner_part : Trees → ℕ → Option Tree
inner_part (more (apply g us) ts) k = slice_get (list_of us) k
inner_part _ k = None

-- the place of the part that an equation leaves
abbrev pub place : Equations → List ℕ → Trees → Option ℕ
place e f ts =
    or_else (or_else (or_else (or_else (guard (bytes_eq f fst_name) (option_map (λ _. 0) (first_part pair_name ts)))
    (guard (bytes_eq f snd_name) (option_map (λ _. 1) (second_part ts))))
    (guard (bytes_eq f sdec_name && e.symmetric) (option_map (λ _. 0) (opened ts))))
    (guard (bytes_eq f adec_name && e.asymmetric) (option_map (λ _. 0) (opened_by_key ts))))
    (guard (bytes_eq f get_message_name && e.revealing) (option_map (λ _. 0) (first_part reveal_sign_name ts)))
