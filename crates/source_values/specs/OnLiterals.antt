-- What a proof by computation unfolds to compute what a value says that is written out. Only such
-- proofs need this module.
use Rattle.std.specs.Prelude.{⊤}
use Rattle.source_values.specs.Decimals.{are_digits, digits_value, billionths_of, fraction_of}
use Rattle.source_values.specs.Decimals.{unsigned_of, decimal_of}
use Rattle.source_values.specs.Values.{decimal_at, natural_in}
use Rattle.source_values.specs.Asking.{whole_failures, text_failures, name_failures}
use Rattle.source_values.specs.Asking.{dictionary_failures, empty_list_failures}
use Rattle.source_values.specs.Asking.{empty_dictionary_failures}

unfoldable pub values_on_literals : ⊤
unfolding are_digits digits_value billionths_of fraction_of unsigned_of decimal_of decimal_at
    natural_in whole_failures text_failures name_failures dictionary_failures empty_list_failures
    empty_dictionary_failures
values_on_literals = tt
