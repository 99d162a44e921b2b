-- Why a new folder can't be begun.
use Rattle.std.specs.declared.io.ErrorKind.{ErrorKind}
use Rattle.std.specs.declared.io.ErrorKind.TheVariants.{OutOfMemory}
use Rattle.shop_outputs.specs.declared.folder.StartError.{StartError}
use Rattle.shop_outputs.specs.declared.folder.StartError.TheVariants.{Failed, Memory}

-- why it can't be begun after an error of this kind
abbrev pub start_error_of : ErrorKind → StartError
start_error_of OutOfMemory = Memory
start_error_of kind = Failed
