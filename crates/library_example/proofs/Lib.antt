pub mod RouteAfter
