-- The laws, of the program that the numbers of an instance spell.
use Rattle.std.proofs.Common.{◌≡◌, true, sym, subst}
use Rattle.dp_model.specs.Laws.{IsLawful, IsChained}
use Rattle.knapsack.specs.Instance.{Instance, numbers_of, is_small}
use Rattle.knapsack.specs.Program.{program, program_of}
use Rattle.knapsack.specs.Laws.Program.{instance_of-numbers_of, lawful_program, chained_program}

pub lawful_numbers : (i : Instance) → is_small i ≡ true → IsLawful (program (numbers_of i))
lawful_numbers i h = subst (λ (j : Instance). IsLawful (program_of j)) (sym (instance_of-numbers_of i)) (lawful_program i h)

pub chained_numbers : (i : Instance) → IsChained (program (numbers_of i))
chained_numbers i = subst (λ (j : Instance). IsChained (program_of j)) (sym (instance_of-numbers_of i)) (chained_program i)
