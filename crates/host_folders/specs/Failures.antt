-- Why nothing can be made in a folder.
use Rattle.std.specs.declared.io.ErrorKind.{ErrorKind}
use Rattle.std.specs.declared.io.ErrorKind.TheVariants.{OutOfMemory}
use Rattle.host_folders.specs.declared.folder.FolderFailure.{FolderFailure}
use Rattle.host_folders.specs.declared.folder.FolderFailure.TheVariants.{Failed, Memory}

-- the failure that an error of this kind is
abbrev pub failure_of : ErrorKind → FolderFailure
failure_of OutOfMemory = Memory
failure_of kind = Failed
