use Rattle.std.proofs.Common.{ap, sym}
use Rattle.shop_reads.specs.CheckText.{fault_name}
use Rattle.shop_reads.proofs.check_text.fault_name.Goals as goal

pub returns-in-Geometry : goal.returns-in-Geometry
returns-in-Geometry c = ap fault_name (sym c.in-Geometry.is)

pub returns-in-CatalogLink : goal.returns-in-CatalogLink
returns-in-CatalogLink c = ap fault_name (sym c.in-CatalogLink.is)

pub returns-in-DirLink : goal.returns-in-DirLink
returns-in-DirLink c = ap fault_name (sym c.in-DirLink.is)

pub returns-in-MapPointer : goal.returns-in-MapPointer
returns-in-MapPointer c = ap fault_name (sym c.in-MapPointer.is)

pub returns-in-StorageType : goal.returns-in-StorageType
returns-in-StorageType c = ap fault_name (sym c.in-StorageType.is)

pub returns-in-OutOfRange : goal.returns-in-OutOfRange
returns-in-OutOfRange c = ap fault_name (sym c.in-OutOfRange.is)

pub returns-in-InSystem : goal.returns-in-InSystem
returns-in-InSystem c = ap fault_name (sym c.in-InSystem.is)

pub returns-in-Shared : goal.returns-in-Shared
returns-in-Shared c = ap fault_name (sym c.in-Shared.is)

pub returns-in-MarkedFree : goal.returns-in-MarkedFree
returns-in-MarkedFree c = ap fault_name (sym c.in-MarkedFree.is)
