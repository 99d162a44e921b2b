-- What is told where one of the forms can't be shown or taken.
use Rattle.apple_single.specs.declared.error.PrintError.{PrintError}
use Rattle.apple_single.specs.declared.error.PrintError.TheVariants as printing
use Rattle.apple_text.specs.declared.form.TakeError.{TakeError}
use Rattle.apple_text.specs.declared.form.TakeError.TheVariants as texts
use Rattle.applesoft.specs.declared.error.ListError.{ListError}
use Rattle.applesoft.specs.declared.error.ListError.TheVariants as lists
use Rattle.applesoft.specs.declared.error.TokenError.{TokenError}
use Rattle.applesoft.specs.declared.error.TokenError.TheVariants as tokens
use Rattle.integer_basic.specs.declared.error.ListError.{ListError as IntegerError}
use Rattle.integer_basic.specs.declared.error.ListError.TheVariants as integers
use Rattle.file_forms.specs.declared.error.FormError.{FormError}
use Rattle.file_forms.specs.declared.error.FormError.TheVariants as forms
use Rattle.file_forms.specs.declared.error.TakingError.{TakingError}
use Rattle.file_forms.specs.declared.error.TakingError.TheVariants as takings

abbrev pub form_error_of_list : ListError → FormError
form_error_of_list lists.Form = forms.Form
form_error_of_list lists.Memory = forms.Memory

abbrev pub form_error_of_integer : IntegerError → FormError
form_error_of_integer integers.Form = forms.Form
form_error_of_integer integers.Memory = forms.Memory

abbrev pub form_error_of_print : PrintError → FormError
form_error_of_print printing.TooLong = forms.Form
form_error_of_print printing.Memory = forms.Memory

abbrev pub taking_error_of_text : TakeError → TakingError
taking_error_of_text (texts.BadLine line) = takings.BadLine line
taking_error_of_text texts.Memory = takings.Memory

abbrev pub taking_error_of_tokens : TokenError → TakingError
taking_error_of_tokens (tokens.BadLine line) = takings.BadLine line
taking_error_of_tokens tokens.Memory = takings.Memory
