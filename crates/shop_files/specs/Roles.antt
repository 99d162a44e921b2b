-- The files of a job by their roles, and when two roles have one file.
use Rattle.std.specs.Prelude.{◌≡◌, ◌≢◌, ◌⊎◌, ℕ, Bool, false, List, Option, Some, None}
use Rattle.std.specs.Prelude.{IsSome, IsTrue, codes, option_map, string_bytes}
use Rattle.std.specs.Path.{PathStartsWith}
use Rattle.shop_host.specs.declared.found.Node.{Node}
use Rattle.shop_outputs.specs.declared.target.Standing.{Standing}
use Rattle.shop_outputs.specs.declared.target.Target.{Target}
use Rattle.shop_outputs.specs.declared.target.Target.TheVariants.{Place, Straight, StandardOutput, Nowhere}
use Rattle.shop_files.specs.declared.clash.Clash.{Clash}
use Rattle.shop_files.specs.declared.clash.Clash.TheVariants.{OutAndCertificate, InPlaceAndCertificate, OutAndFrom, OutInFrom, InPlaceAndFrom, ImageAndCertificate, FromAndCertificate}
use Rattle.shop_files.specs.declared.clash.Roles.{Roles}
use Rattle.shop_files.specs.declared.files.JobFiles.{JobFiles}
use Rattle.shop_files.specs.declared.identity.FileIdentity.{FileIdentity}
use Rattle.shop_inputs.specs.declared.image.ImageUse.{ImageUse}
use Rattle.shop_inputs.specs.declared.image.ImageUse.TheVariants.{Read, Replace, Change}

-- which file it is: by its path, and by its device and number
pub record IdentityView : Type 0 where
  pub path : Option (List ℕ)
  pub node : Option Node

abbrev pub identity_view : FileIdentity → IdentityView
identity_view identity = record { path = option_map (λ s. s.now) identity.path; node = identity.node }

-- the files of a job by their roles, as contracts see them
pub record RolesView : Type 0 where
  pub image : IdentityView
  pub in_place : Bool
  pub from : IdentityView
  pub folder : Option (List ℕ)
  pub out : IdentityView
  pub certificate : IdentityView

abbrev pub roles_view : Roles → RolesView
roles_view roles = record {
  image = identity_view roles.image;
  in_place = roles.in_place;
  from = identity_view roles.from;
  folder = option_map (λ s. s.now) roles.folder;
  out = identity_view roles.out;
  certificate = identity_view roles.certificate;
}

-- both are known, and they are the same
abbrev pub ShareSome : {T : Type 0} → Option T → Option T → Type 0
ShareSome one other = IsSome one × (one ≡ other)

-- two roles have one file: it is known of both by the same path, or by the same device and number
abbrev pub AreOneFile : IdentityView → IdentityView → Type 0
AreOneFile one other = ShareSome one.path other.path ⊎ ShareSome one.node other.node

-- Both are known, and the path leads to what is in the folder or in one below it: it is another path, whose components
-- begin with those of the folder's.
abbrev pub IsBelow : Option (List ℕ) → Option (List ℕ) → Type 0
IsBelow (Some folder) (Some path) = (path ≢ folder) × PathStartsWith path folder
IsBelow folder path = ⊥

-- One file has these two roles, and one of them is written: the output file, the certificate, or the image that is
-- changed in its own file. Or the output file is in the folder whose files are added.
abbrev pub HasClash : RolesView → Clash → Type 0
HasClash roles OutAndCertificate = AreOneFile roles.out roles.certificate
HasClash roles InPlaceAndCertificate = IsTrue roles.in_place × AreOneFile roles.image roles.certificate
HasClash roles OutAndFrom = AreOneFile roles.out roles.from
HasClash roles OutInFrom = IsBelow roles.folder roles.out.path
HasClash roles InPlaceAndFrom = IsTrue roles.in_place × AreOneFile roles.image roles.from
HasClash roles ImageAndCertificate = (roles.in_place ≡ false) × AreOneFile roles.image roles.certificate
HasClash roles FromAndCertificate = AreOneFile roles.from roles.certificate

-- the line that tells a clash
abbrev pub clash_line : Clash → List ℕ
clash_line OutAndCertificate = codes "error: --out and --cert name the same file\n"
clash_line InPlaceAndCertificate = codes "error: --in-place and --cert name the same file\n"
clash_line OutAndFrom = codes "error: --out and --from name the same file\n"
clash_line OutInFrom = codes "error: --out leads into the folder of --from\n"
clash_line InPlaceAndFrom = codes "error: --in-place and --from name the same file\n"
clash_line ImageAndCertificate = codes "error: IMAGE and --cert name the same file\n"
clash_line FromAndCertificate = codes "error: --from and --cert name the same file\n"

-- Which file a path leads to: by the path of its place, and by the number of what stands there. What is no place
-- is no file.
abbrev pub identity_of : Target → IdentityView
identity_of (Place place) = record {
  path = Some (string_bytes place.path);
  node = option_map (λ (standing : Standing). standing.node) place.standing;
}
identity_of Straight = record { path = None; node = None }
identity_of StandardOutput = record { path = None; node = None }
identity_of Nowhere = record { path = None; node = None }

-- which file the image is: that of its path, or the one that is standard input
abbrev pub image_identity : Option Node → Target → IdentityView
image_identity None image = identity_of image
image_identity (Some node) image = record { path = None; node = Some node }

-- the files of a job, where its paths lead
abbrev pub roles_of : JobFiles → Bool → RolesView
roles_of files in_place = record {
  image = image_identity files.input files.image.target;
  in_place = in_place;
  from = identity_of files.from.target;
  folder = option_map string_bytes files.folder;
  out = identity_of files.out.target;
  certificate = identity_of files.certificate.target;
}

-- the image is changed in its own file; or it is read, and its output file takes its place; or it is only read
abbrev pub IsUse : RolesView → ImageUse → Type 0
IsUse roles Change = IsTrue roles.in_place
IsUse roles Replace = (roles.in_place ≡ false) × AreOneFile roles.out roles.image
IsUse roles Read = (roles.in_place ≡ false) × (¬ AreOneFile roles.out roles.image)
