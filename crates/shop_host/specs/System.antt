-- The system as a host.
use Rattle.std.specs.Prelude.{false, [], None}
use Rattle.shop_host.specs.State.{HostState}

-- Nothing is known of what the system holds: that it is honest is not proved.
abbrev pub system_host : HostState
system_host = record {
  honest = false;
  files = λ path. None;
  kind = λ path. None;
  leads = λ path. path;
  input = None;
  locks = [];
  moments = [];
  refused = λ request. false;
}
