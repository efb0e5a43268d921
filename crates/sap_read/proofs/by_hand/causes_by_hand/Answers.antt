use Rattle.std.proofs.Common.{refl, lit<, lit≤}
use Rattle.sap_read.proofs.CausesByHand.{is_deep, is_expanded, is_many, is_other, is_twice}
use Rattle.sap_read.proofs.by_hand.causes_by_hand.Goals as goal

pub returns-clause-no_process : goal.returns-clause-no_process
returns-clause-no_process c = (refl, (refl, (refl, tt)))

pub returns-clause-two_processes : goal.returns-clause-two_processes
returns-clause-two_processes c = (refl, (refl, tt))

pub returns-clause-unknown : goal.returns-clause-unknown
returns-clause-unknown c = (refl, (refl, (refl, (refl, (refl, tt)))))

pub returns-clause-repeated : goal.returns-clause-repeated
returns-clause-repeated c = (refl, (refl, (refl, (refl, (refl, tt)))))

pub returns-clause-clash : goal.returns-clause-clash
returns-clause-clash c = (refl, (refl, (refl, (refl, (refl, tt)))))

pub returns-clause-parameters : goal.returns-clause-parameters
returns-clause-parameters c = (refl, is_twice _ _ _ refl _ refl, (refl, is_twice _ _ _ refl _ refl, (refl, is_twice _ _ _ refl _ refl, tt)))

pub returns-clause-arguments : goal.returns-clause-arguments
returns-clause-arguments c = (refl, is_other _ _ _ refl _ refl refl, (refl, is_other _ _ _ refl _ refl refl, (refl, is_other _ _ _ refl _ refl refl, (refl, is_other _ _ _ refl _ refl refl, (refl, is_other _ _ _ refl _ refl refl, tt)))))

pub returns-clause-too_many : goal.returns-clause-too_many
returns-clause-too_many c = (refl, is_many _ _ _ refl refl refl (λ names. lit< tt), tt)

pub returns-clause-too_deep : goal.returns-clause-too_deep
returns-clause-too_deep c = (refl, is_deep _ _ _ refl refl refl (lit≤ tt) (λ names. lit< tt), (refl, is_deep _ _ _ refl refl refl (lit≤ tt) (λ names. lit< tt), tt))

pub returns-clause-near : goal.returns-clause-near
returns-clause-near c = (refl, (λ names. (_, is_expanded _ _ _ refl refl refl (lit≤ tt) (lit≤ tt) refl tt names)), (refl, (λ names. (_, is_expanded _ _ _ refl refl refl (lit≤ tt) (lit≤ tt) refl (refl, (refl, tt)) names)), (refl, (λ names. (_, is_expanded _ _ _ refl refl refl (lit≤ tt) (lit≤ tt) refl (refl, tt) names)), (refl, (λ names. (_, is_expanded _ _ _ refl refl refl (lit≤ tt) (lit≤ tt) refl (refl, (refl, tt)) names)), (refl, (λ names. (_, is_expanded _ _ _ refl refl refl (lit≤ tt) (lit≤ tt) refl (refl, (refl, tt)) names)), (refl, (λ names. (_, is_expanded _ _ _ refl refl refl (lit≤ tt) (lit≤ tt) refl (refl, (refl, tt)) names)), (refl, (λ names. (_, is_expanded _ _ _ refl refl refl (lit≤ tt) (lit≤ tt) refl (refl, tt) names)), (refl, (λ names. (_, is_expanded _ _ _ refl refl refl (lit≤ tt) (lit≤ tt) refl (refl, tt) names)), (refl, (λ names. (_, is_expanded _ _ _ refl refl refl (lit≤ tt) (lit≤ tt) refl tt names)), (refl, (λ names. (_, is_expanded _ _ _ refl refl refl (lit≤ tt) (lit≤ tt) refl tt names)), (refl, (λ names. (_, is_expanded _ _ _ refl refl refl (lit≤ tt) (lit≤ tt) refl tt names)), (refl, (λ names. (_, is_expanded _ _ _ refl refl refl (lit≤ tt) (lit≤ tt) refl (refl, tt) names)), (refl, (λ names. (_, is_expanded _ _ _ refl refl refl (lit≤ tt) (lit≤ tt) refl tt names)), (refl, (λ names. (_, is_expanded _ _ _ refl refl refl (lit≤ tt) (lit≤ tt) refl (refl, tt) names)), tt))))))))))))))

pub returns-clause-order : goal.returns-clause-order
returns-clause-order c = (refl, (refl, (refl, (refl, (refl, (refl, (refl, tt)))))))

pub returns-clause-order_of_uses : goal.returns-clause-order_of_uses
returns-clause-order_of_uses c = (refl, is_twice _ _ _ refl _ refl, (refl, is_other _ _ _ refl _ refl refl, (refl, is_many _ _ _ refl refl refl (λ names. lit< tt), tt)))
