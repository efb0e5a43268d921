-- One more request is noted.
use Rattle.std.proofs.Common.{◌≡◌, List, [], ◌∷◌, ◌++◌, Some, map, ap, ◌∙◌}
use Rattle.std.proofs.lemmas.List.{map-append}
use Rattle.sap_outside.specs.Requests.{Request, Requested}
use Rattle.sap_outside.specs.Asked.{request_of}
use Rattle.sap_outside.specs.declared.asked.Asked.{Asked}

pub noted_one : (old new : List Asked) (a : Asked) (r : Request) → new ≡ old ++ a ∷ [] → request_of a ≡ r
    → Requested (r ∷ []) (Some (map request_of old)) (Some (map request_of new))
noted_one old new a r e same =
    ap (λ (made : List Asked). map request_of made) e ∙ map-append request_of old (a ∷ []) ∙ ap (λ (x : Request). map request_of old ++ x ∷ []) same
