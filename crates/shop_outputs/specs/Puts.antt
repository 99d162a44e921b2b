-- What was put into the files that a job writes, and how it ends with them.
use Rattle.std.specs.Prelude.{◌≡◌, ◌⊎◌, ⊤, ℕ, List, [], Option, Some, None, IfSome, IsSome, Result, OnErr, OnOk, IfErr, option_map, unwrap_or}
use Rattle.std.specs.declared.vec.Vec.{Vec}
use Rattle.std.specs.declared.alloc.Global.{Global}
use Rattle.std.specs.declared.io.Error.{Error}
use Rattle.shop_replies.specs.Reply.{certificate_in, status_of}
use Rattle.shop_replies.specs.declared.reply.Reply.{Reply}
use Rattle.shop_host.specs.State.{Files, HostState, Path, unflushed}
use Rattle.shop_host.specs.Runs.{IsRun, May}
use Rattle.shop_outputs.specs.Asides.{Destination, IsMadeAside, IsOnDisk, Stands, Stays, content_of, destination, may_take}
use Rattle.shop_outputs.specs.Asides.{nowhere, straight_to, to_place, IsAside}
use Rattle.shop_outputs.specs.Written.{IsUntouched}
use Rattle.shop_outputs.specs.Endings.{stopped}
use Rattle.shop_outputs.specs.declared.ending.Ending.{Ending}
use Rattle.shop_outputs.specs.declared.ending.Unwritten.{Unwritten}
use Rattle.shop_outputs.specs.declared.ending.Unwritten.TheVariants.{ImageAfterCertificate}
use Rattle.shop_outputs.specs.declared.output.Output.{Output}
use Rattle.shop_outputs.specs.declared.output.Output.TheVariants.{Nothing, Aside, Held}

-- what may come to stand where before an output takes its place; for a path that is written straight, where it leads
abbrev pub may_prepare : (Path → Path) → Destination → May
may_prepare leads nowhere path content = ⊥
may_prepare leads (to_place place apart placing) path content = IsAside place apart path
may_prepare leads (straight_to to) path content = path ≡ leads to

-- the same while it takes its place with these bytes
abbrev pub may_place : (Path → Path) → Destination → List ℕ → May
may_place leads to bytes path content = may_prepare leads to path content ⊎ may_take to bytes path content

-- these bytes were put into an output, unless a call of it failed
abbrev pub IsPut : {H File Units Names : Type 0} → (File → Path) → Output H File Units Names → List ℕ → Files → Type 0
IsPut place Nothing bytes files = ⊤
IsPut place (Aside file) bytes files =
    IsMadeAside place file × (file.failure ≡ None → content_of file.made files ≡ unflushed bytes)
IsPut place (Held file) bytes files = ⊤

-- no call of an output failed, and what was put into it is on the disk
abbrev pub IsReady : {H File Units Names : Type 0} → (File → Path) → Output H File Units Names → List ℕ → Files → Type 0
IsReady place Nothing bytes files = ⊤
IsReady place (Aside file) bytes files = IsMadeAside place file × IsOnDisk file.made bytes files
IsReady place (Held file) bytes files = ⊤

-- what was made of an output is open at its path, whatever it holds
abbrev pub IsHeld : {H File Units Names : Type 0} → (File → Path) → Output H File Units Names → Type 0
IsHeld place Nothing = ⊤
IsHeld place (Aside file) = IsMadeAside place file
IsHeld place (Held file) = ⊤

-- An output took its place, or what stood there stands.
pub record IsPlaced {T H File Units Names : Type 0} (output : Output H File Units Names) (bytes : List ℕ)
    (result : Result T Error) (old new : HostState) : Type 0 where
  pub run : IsRun (may_place old.leads (destination output) bytes) old new
  pub done : OnOk result (IsUntouched output ⊎ Stands (destination output) bytes old.files new.files)
  pub stays : OnErr result (Stays (destination output) old.files new.files)

-- a path at which something may come to stand for a destination
abbrev pub IsOf : (Path → Path) → Destination → Path → Type 0
IsOf leads nowhere path = ⊥
IsOf leads (to_place place apart placing) path = (path ≡ place) ⊎ IsAside place apart path
IsOf leads (straight_to to) path = path ≡ leads to

-- it is no place that is taken
abbrev pub IsNoPlace : Destination → Type 0
IsNoPlace nowhere = ⊤
IsNoPlace (to_place place apart placing) = ⊥
IsNoPlace (straight_to to) = ⊤

-- Two destinations have nothing to do with one another: neither file is written or prepared where the other stands.
abbrev pub AreApart : (Path → Path) → Destination → Destination → Type 0
AreApart leads one other = (path : Path) → (¬ (IsOf leads one path × IsOf leads other path))

-- what may come to stand where before either of two outputs takes its place
abbrev pub may_prepare_both : (Path → Path) → Destination → Destination → May
may_prepare_both leads one other path content =
    may_prepare leads one path content ⊎ may_prepare leads other path content

-- what may come to stand where while a job ends with an image and a certificate
abbrev pub may_end : (Path → Path) → Destination → List ℕ → Destination → List ℕ → May
may_end leads out image certificate text path content =
    may_place leads out image path content ⊎ may_place leads certificate text path content

-- Both outputs are on the disk; or one of them is not, and what was made of both is still open.
pub record ArePrepared {T E H File Units Names : Type 0} (place : File → Path)
    (out out_now : Output H File Units Names) (image : List ℕ)
    (certificate certificate_now : Output H File Units Names) (said : List ℕ) (result : Result T E)
    (old new : HostState) : Type 0 where
  pub run : IsRun (may_prepare_both old.leads (destination out) (destination certificate)) old new
  pub done : OnOk result (IsReady place out_now image new.files × IsReady place certificate_now said new.files)
  pub failed : OnErr result (IsHeld place out_now × IsHeld place certificate_now)

-- Both outputs took their places; or that of the certificate alone did; or what stood at both places stands, or no
-- certificate was put.
pub record AreBothPlaced {T H File Units Names : Type 0} (out : Output H File Units Names) (image : List ℕ)
    (certificate : Output H File Units Names) (said : List ℕ) (result : Result T Unwritten)
    (old new : HostState) : Type 0 where
  pub run : IsRun (may_end old.leads (destination out) image (destination certificate) said) old new
  pub done : OnOk result ((IsUntouched out ⊎ Stands (destination out) image old.files new.files)
      × (IsUntouched certificate ⊎ Stands (destination certificate) said old.files new.files))
  pub failed : IfErr result (λ unwritten. Stays (destination out) old.files new.files
      × (((unwritten ≡ ImageAfterCertificate) × Stands (destination certificate) said old.files new.files)
      ⊎ Stays (destination certificate) old.files new.files ⊎ IsUntouched certificate))

-- How a job has ended that put these bytes into two files, where both stood at the start as they did then: both stand;
-- or that of the certificate alone; or what stood at both places stands, or no certificate was put, and the status is 4
-- or no image was put.
abbrev pub IsSettled : {H File Units Names : Type 0} → Output H File Units Names → List ℕ → Output H File Units Names
    → List ℕ → ℕ → Ending → Files → Files → Type 0
IsSettled out image certificate text status ending old files =
    ((ending ≡ record { status = status; unwritten = None })
    × (IsUntouched out ⊎ Stands (destination out) image old files)
    × (IsUntouched certificate ⊎ Stands (destination certificate) text old files))
    ⊎ ((ending ≡ stopped ImageAfterCertificate) × Stays (destination out) old files
    × Stands (destination certificate) text old files)
    ⊎ (((ending.status ≡ 4) ⊎ IsUntouched out) × Stays (destination out) old files
    × (Stays (destination certificate) old files ⊎ IsUntouched certificate))

-- something was to be written to a file aside, or a call of it failed; of any other output nothing is said
abbrev pub IsTouched : {H File Units Names : Type 0} → Output H File Units Names → Type 0
IsTouched Nothing = ⊤
IsTouched (Aside file) = ¬ ((file.made ≡ None) × (file.failure ≡ None))
IsTouched (Held file) = ⊤

-- An image was handed to an output to which nothing was written, or there is none.
pub record IsImageHanded {H File Units Names : Type 0} (place : File → Path) (image : Option (List ℕ))
    (output now : Output H File Units Names) (old new : HostState) : Type 0 where
  pub run : IsRun (may_prepare old.leads (destination output)) old new
  pub goes : destination now ≡ destination output
  pub put : IfSome image (λ bytes. IsPut place now bytes new.files × IsTouched now)
  pub none : image ≡ None → IsUntouched now

-- A certificate was handed to an output to which nothing was written; or there is none, and nothing takes a place.
pub record IsCertificateHanded {H File Units Names : Type 0} (place : File → Path) (certificate : Option (List ℕ))
    (output now : Output H File Units Names) (old new : HostState) : Type 0 where
  pub run : IsRun (may_prepare old.leads (destination output)) old new
  pub goes : (destination now ≡ destination output) ⊎ (destination now ≡ nowhere)
  pub put : IsPut place now (unwrap_or certificate []) new.files
  pub some : IfSome certificate (λ _. (destination now ≡ destination output) × IsTouched now)
  pub none : certificate ≡ None → IsNoPlace (destination now)

-- the bytes of the image that a reply hands out
abbrev pub image_bytes : Option (Vec ℕ Global) → Option (List ℕ)
image_bytes image = option_map (λ (image : Vec ℕ Global). image.items) image

abbrev pub image_of : Reply → Option (List ℕ)
image_of reply = image_bytes reply.image

-- What may come to stand where while a job ends by its reply: files aside; at the place of the output file the image of
-- the reply, whole; and at that of the certificate, where there is an image, the certificate of the reply, whole.
abbrev pub may_reply : (Path → Path) → Destination → Destination → Reply → May
may_reply leads out certificate reply path content =
    may_prepare leads out path content
    ⊎ may_prepare leads certificate path content
    ⊎ ((image : List ℕ) × (image_of reply ≡ Some image) × may_take out image path content)
    ⊎ ((text : List ℕ) × (certificate_in reply.told ≡ Some text) × IsSome reply.image
    × may_take certificate text path content)

-- A job has ended by its reply. The image of the reply and its certificate stand at their places, and the status is
-- that of the reply; or the certificate alone does, and the image could not take its place; or what stood at both
-- places stands, and the status is 4, or the reply has no image, or the output takes no place.
pub record IsReplySettled (reply : Reply) (out certificate : Destination) (ending : Ending)
    (old new : HostState) : Type 0 where
  pub run : IsRun (may_reply old.leads out certificate reply) old new
  pub files : ((ending ≡ record { status = status_of reply; unwritten = None })
      × IfSome (image_of reply) (λ image. Stands out image old.files new.files)
      × IfSome (certificate_in reply.told) (λ text. Stands certificate text old.files new.files))
      ⊎ ((ending ≡ stopped ImageAfterCertificate) × Stays out old.files new.files
      × IfSome (certificate_in reply.told) (λ text. Stands certificate text old.files new.files))
      ⊎ (Stays out old.files new.files × Stays certificate old.files new.files
      × ((ending.status ≡ 4) ⊎ (reply.image ≡ None) ⊎ IsNoPlace out))
