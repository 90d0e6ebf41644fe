use Rattle.formatting.proofs.+put_digits.Given as goal

-- The number itself, which falls to its tenth.
abbrev pub decreases-put_digits : goal.decreases-put_digits
decreases-put_digits l = l.n
