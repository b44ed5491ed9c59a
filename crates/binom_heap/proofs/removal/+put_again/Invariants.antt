use Rattle.binom_heap.proofs.removal.+put_again.Given as goal

abbrev pub decreases-put_again : goal.decreases-put_again
decreases-put_again g l = l.list.0
