-- Small processes that are equal up to names, and some that aren't.
use Rattle.std.proofs.Common.{◌≡◌, ℕ, true, false, List, [], refl, sym, ap, ◌∙◌}
use Rattle.std.proofs.lemmas.Bool.{true≢false}
use Rattle.std.specs.Prelude.{codes}
use Rattle.std.specs.Str.{bytes_eq}
use Rattle.sap_process.specs.Proc.{nil, parallel}
use Rattle.sap_macro.specs.NameExamples.{x, y, z, fresh_x, public_x, public_y, a, both, new_x, new_y, new_plain, takes, gives, finds_x, finds_y, finds_fresh, ruled, AreAllSame, AreNoneSame, equal_pairs, other_pairs}
use Rattle.sap_macro.specs.UpToNames.{here, above, both_variable, both_public, both_apply, both_none, both_more, old_name, new_name, one_symbol, row_ends, row_goes_on, facts_end, facts_go_on, both_new, both_out, both_input, both_lock, both_unlock, both_embedded, AreAlike, both_nil, both_parallel, both_act, both_lookup}

-- names that a test tells apart are two
two_names : (x y : List ℕ) → bytes_eq x y ≡ false → bytes_eq y y ≡ true → ¬ (x ≡ y)
two_names x y h k e = true≢false (sym k ∙ sym (ap (λ z. bytes_eq z y) e) ∙ h)

x-y : ¬ (codes "x" ≡ codes "y")
x-y = two_names (codes "x") (codes "y") refl refl

y-x : ¬ (codes "y" ≡ codes "x")
y-x = two_names (codes "y") (codes "x") refl refl

x-z : ¬ (codes "x" ≡ codes "z")
x-z = two_names (codes "x") (codes "z") refl refl

pub equal : AreAllSame equal_pairs
equal = (
  both_parallel (both_act both_new (both_act (both_out (both_variable here)) both_nil)) (both_act both_new (both_act (both_out (both_variable here)) both_nil)),
  (
    both_act both_new (both_act both_new (both_act (both_out (both_variable here)) both_nil)),
    (
      both_act (both_input (one_symbol (row_goes_on (new_name refl refl) (row_goes_on (new_name refl refl) row_ends))))
          (both_act (both_out (both_apply (both_more (both_variable here) (both_more (both_variable (above y-x x-y here)) both_none)))) both_nil),
      (
        both_act (both_input (one_symbol (row_goes_on (new_name refl refl) (row_goes_on (old_name here) row_ends))))
            (both_act (both_out (both_variable here)) both_nil),
        (
          both_act (both_input (new_name refl refl)) (both_act (both_input (one_symbol (row_goes_on (old_name here) (row_goes_on (new_name refl refl) row_ends))))
              (both_act (both_out (both_variable here)) both_nil)),
          (
            both_act (both_input (new_name refl refl)) (both_lookup both_public both_nil (both_act (both_out (both_variable here)) both_nil)),
            (
              both_act (both_embedded (facts_go_on (row_goes_on (new_name refl refl) row_ends) facts_end) (facts_go_on (row_goes_on (old_name here) row_ends) facts_end)
                  (facts_go_on (row_goes_on (new_name refl refl) row_ends) facts_end))
                  (both_act (both_out (both_apply (both_more (both_variable (above y-x x-y here)) (both_more (both_variable here) both_none)))) both_nil),
              (
                both_act (both_lock both_public) (both_act (both_unlock both_public) both_nil),
                tt,
              ),
            ),
          ),
        ),
      ),
    ),
  ),
)

other_binder : ¬ AreAlike [] (takes x (takes y (gives x))) (takes x (takes y (gives y)))
other_binder (both_act (both_input (old_name l)) _) = elim l [ ]
other_binder (both_act (both_input (new_name a b)) (both_act (both_input (old_name (above h k l))) _)) = elim l [ ]
other_binder (both_act (both_input (new_name a b)) (both_act (both_input (new_name c d)) (both_act (both_out (both_variable (above h k l))) m))) = k refl

bound_again : ¬ AreAlike [] (new_x (new_y (gives fresh_x))) (new_x (new_x (gives fresh_x)))
bound_again (both_act both_new (both_act both_new (both_act (both_out (both_variable (above h k l))) m))) = k refl

bound_again_first : ¬ AreAlike [] (new_x (new_x (gives fresh_x))) (new_x (new_y (gives fresh_x)))
bound_again_first (both_act both_new (both_act both_new (both_act (both_out (both_variable (above h k l))) m))) = h refl

changed_places : ¬ AreAlike [] (takes (both x y) (gives (both x y))) (takes (both x y) (gives (both y x)))
changed_places (both_act (both_input (one_symbol (row_goes_on (old_name l) _))) _) = elim l [ ]
changed_places (both_act (both_input (one_symbol (row_goes_on (new_name a b) (row_goes_on (old_name (above h k l)) _)))) _) = elim l [ ]
changed_places (both_act (both_input (one_symbol (row_goes_on (new_name a b) (row_goes_on (new_name c d) row_ends))))
    (both_act (both_out (both_apply (both_more (both_variable (above h k l)) m))) n)) = k refl

compared : ¬ AreAlike [] (takes x (takes (both x y) nil)) (takes x (takes (both y z) nil))
compared (both_act (both_input (old_name l)) _) = elim l [ ]
compared (both_act (both_input (new_name a b)) (both_act (both_input (one_symbol (row_goes_on (old_name (above h k l)) _))) _)) = h refl
compared (both_act (both_input (new_name a b)) (both_act (both_input (one_symbol (row_goes_on (new_name c d) _))) _)) = true≢false c

signed : ¬ AreAlike [] (new_x (gives fresh_x)) (new_x (gives x))
signed (both_act both_new (both_act (both_out v) m)) = elim v [ ]

new_signed : ¬ AreAlike [] (new_x (gives fresh_x)) (new_plain (gives fresh_x))
new_signed (both_act e m) = elim e [ ]

found_signed : ¬ AreAlike [] (finds_x (gives x) nil) (finds_fresh (gives x) nil)
found_signed h = elim h [ ]

compared_signed : ¬ AreAlike [] (new_x (takes fresh_x nil)) (new_x (takes x nil))
compared_signed (both_act both_new (both_act (both_input e) m)) = elim e [ ]

inner : ¬ AreAlike [] (takes x (finds_y (gives x) nil)) (takes y (finds_y (gives y) nil))
inner (both_act (both_input (old_name l)) _) = elim l [ ]
inner (both_act (both_input (new_name a b)) (both_lookup t (both_act (both_out (both_variable (above h k l))) m) n)) = k refl

made_up : ¬ AreAlike [] (ruled x x public_y nil) (ruled x x public_x nil)
made_up (both_act (both_embedded (facts_go_on (row_goes_on (old_name l) _) _) _ _) _) = elim l [ ]
made_up (both_act (both_embedded (facts_go_on (row_goes_on (new_name a b) row_ends) facts_end) (facts_go_on (row_goes_on (new_name c d) _) _) _) _) = true≢false c
made_up (both_act (both_embedded (facts_go_on (row_goes_on (new_name a b) row_ends) facts_end) (facts_go_on (row_goes_on (old_name e) row_ends) facts_end)
    (facts_go_on (row_goes_on (old_name (above h k l)) _) _)) _) = k refl
made_up (both_act (both_embedded (facts_go_on (row_goes_on (new_name a b) row_ends) facts_end) (facts_go_on (row_goes_on (old_name e) row_ends) facts_end)
    (facts_go_on (row_goes_on (new_name c d) _) _)) _) = true≢false d

unbound : ¬ AreAlike [] (gives x) (gives y)
unbound (both_act (both_out (both_variable l)) m) = elim l [ ]

unbound_itself : ¬ AreAlike [] (gives x) (gives x)
unbound_itself (both_act (both_out (both_variable l)) m) = elim l [ ]

changed_sides : ¬ AreAlike [] (parallel (gives a) nil) (parallel nil (gives a))
changed_sides (both_parallel l m) = elim l [ ]

pub other : AreNoneSame other_pairs
other = (
  other_binder,
  (
    bound_again,
    (
      bound_again_first,
      (
        changed_places,
        (compared, (signed, (new_signed, (found_signed, (compared_signed, (inner, (made_up, (unbound, (unbound_itself, (changed_sides, tt)))))))))),
      ),
    ),
  ),
)
